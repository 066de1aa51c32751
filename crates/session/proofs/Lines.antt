-- What a line can say: its account has 32 bits, its total or amount 64, and it asks for a step at least. Rests on the lines' grammar.
use Prim.Native.Nat.{ℕ, suc, ◌-◌, ◌^◌, ◌≤◌, ◌<◌}
use native.Mathlib.Omega.{arith}
use mathlib.Core.List.{List, [], ◌∷◌}
use Rattle.std.specs.Prelude.{Option, Some, None}
use lib.Dec.{leb, eqb}
use lib.IntN.{ℤ, pos, negsuc}
use mir.Syntax.{w64}
use mir.Val.{SFits}
use borrow.Author.Tests.{leb-true}
use Rattle.machine.proofs.laws.Base.{if_elim}
use Rattle.commands.specs.declared.Command.{Command}
use Rattle.numerals.specs.Numerals.{numeral, signed_numeral, up_to, from, in64}
use Rattle.commands.specs.Commands.{account_of, total_of, steps_of, with2, with3, one_field, three_fields, four_fields}
use Rattle.lines.specs.Grammar.{fields_of, letter_of, of_fields, command_of}

-- as the table's calls take them
abbrev pub Said : Command → Type 0
Said (Command.Open n b M) = Unit {0}
Said (Command.Insert w a t) = (a < 2 ^ 32) × SFits w64 t
Said (Command.Delete w a) = a < 2 ^ 32
Said (Command.Lookup w a) = a < 2 ^ 32
Said (Command.Post w a v) = (a < 2 ^ 32) × SFits w64 v
Said (Command.Steps w k) = 1 ≤ k
Said Command.List = Unit {0}

-- what holds of a number, or a command, that was read
abbrev pub If : {A : Type 0} → (A → Type 0) → Option A → Type 0
If P None = Unit {0}
If P (Some a) = P a

up-to : (most : ℕ) (o : Option ℕ) → If (λ n. n ≤ most) (up_to most o)
unfolding up_to
up-to most None = tt
up-to most (Some v) = if_elim (If (λ n. n ≤ most)) (leb v most) _ _ (λ t. leb-true v most t) (λ t. tt)

at_least : (least : ℕ) (o : Option ℕ) → If (λ n. least ≤ n) (from least o)
unfolding from
at_least least None = tt
at_least least (Some v) = if_elim (If (λ n. least ≤ n)) (leb least v) _ _ (λ t. leb-true least v t) (λ t. tt)

in_64 : (o : Option ℤ) → If (SFits w64) (in64 o)
unfolding in64
in_64 None = tt
in_64 (Some (pos n)) =
    if_elim (If (SFits w64)) (leb n (2 ^ 63 - 1)) _ _ (λ t. let h = leb-true n (2 ^ 63 - 1) t in record { sfits = omega arith }) (λ t. tt)
in_64 (Some (negsuc n)) =
    if_elim (If (SFits w64)) (leb (suc n) (2 ^ 63)) _ _ (λ t. let h = leb-true (suc n) (2 ^ 63) t in record { sfits = omega arith })
    (λ t. tt)

said_two : {A B : Type 0} (P : B → Type 0) (f : A → B → Command) (x : Option A) (y : Option B) → ((a : A) (b : B) → P b → Said (f a b))
    → If P y
    → If Said (with2 f x y)
unfolding with2
said_two P f None y h k = tt
said_two P f (Some a) None h k = tt
said_two P f (Some a) (Some b) h k = h a b k

said_open : (x y z : Option ℕ) → If Said (with3 Command.Open x y z)
unfolding with3
said_open None y z = tt
said_open (Some a) None z = tt
said_open (Some a) (Some b) None = tt
said_open (Some a) (Some b) (Some c) = tt

said_totalled : (f : ℕ → ℕ → ℤ → Command) → ((w a : ℕ) (v : ℤ) → (a < 2 ^ 32) × SFits w64 v → Said (f w a v)) → (x y : Option ℕ)
    (z : Option ℤ) → If (λ n. n ≤ 4_294_967_295) y → If (SFits w64) z → If Said (with3 f x y z)
unfolding with3
said_totalled f says None y z h k = tt
said_totalled f says (Some a) None z h k = tt
said_totalled f says (Some a) (Some b) None h k = tt
said_totalled f says (Some a) (Some b) (Some c) h k = says a b c (omega arith, k)

said_one : (letter : ℕ) → If Said (one_field letter)
unfolding one_field
said_one letter = if_elim (If Said) (eqb letter 84) _ _ (λ t. tt) (λ t. tt)

said_three : (letter : ℕ) (x y : List ℕ) → If Said (three_fields letter x y)
unfolding three_fields account_of steps_of
said_three letter x y =
    let account = up-to 4_294_967_295 (numeral y) in
    if_elim (If Said) (eqb letter 68) _ _ (λ t. said_two (λ n. n ≤ 4_294_967_295) Command.Delete _ _ (λ a b h. omega arith) account)
    (λ t.
    if_elim (If Said) (eqb letter 76) _ _ (λ t. said_two (λ n. n ≤ 4_294_967_295) Command.Lookup _ _ (λ a b h. omega arith) account)
    (λ t. if_elim (If Said) (eqb letter 83) _ _ (λ t. said_two (λ n. 1 ≤ n) Command.Steps _ _ (λ a b h. h) (at_least 1 (up_to 9_999 (numeral y))))
    (λ t. tt)))

said_four : (letter : ℕ) (x y z : List ℕ) → If Said (four_fields letter x y z)
unfolding four_fields account_of total_of
said_four letter x y z =
    let account = up-to 4_294_967_295 (numeral y) in
    let total = in_64 (signed_numeral z) in
    if_elim (If Said) (eqb letter 79) _ _ (λ t. said_open _ _ _)
    (λ t.
    if_elim (If Said) (eqb letter 73) _ _ (λ t. said_totalled Command.Insert (λ w a v h. h) _ _ _ account total)
    (λ t. if_elim (If Said) (eqb letter 80) _ _ (λ t. said_totalled Command.Post (λ w a v h. h) _ _ _ account total) (λ t. tt)))

said_fields : (fs : List (List ℕ)) → If Said (of_fields fs)
unfolding of_fields
said_fields [] = tt
said_fields (f ∷ []) = said_one (letter_of f)
said_fields (f ∷ x ∷ []) = tt
said_fields (f ∷ x ∷ y ∷ []) = said_three (letter_of f) x y
said_fields (f ∷ x ∷ y ∷ z ∷ []) = said_four (letter_of f) x y z
said_fields (f ∷ x ∷ y ∷ z ∷ g ∷ gs) = tt

pub said : (line : List ℕ) → If Said (command_of line)
unfolding command_of
said line = said_fields (fields_of line)
