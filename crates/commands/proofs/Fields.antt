-- A command's fields by the pair that its first two are. Rests on the definitions of specs/Commands.
use Prim.Native.Nat.{ℕ, ◌≤◌}
use mathlib.Core.Path.{◌≡◌, refl, sym, ap}
use mathlib.Core.Bool.{Bool, true, false}
use Rattle.std.specs.Prelude.{Option, Some, None}
use Rattle.std.specs.Option.{option_map, option_and_then, option_zip}
use Rattle.std.proofs.lemmas.Option.{none-some, some_pair_parts}
use lib.Dec.{leb}
use Rattle.machine.specs.Choice.{when◌then◌else◌}
use Rattle.commands.specs.declared.Command.{Command}
use Rattle.numerals.specs.Numerals.{up_to, from}
use Rattle.numerals.proofs.NumeralLaws.{limited}
use Rattle.commands.specs.Commands.{with2, with3}

module _ {A B : Type 0} where
  pub of_pair : (f : A → B → Command) (o : Option A) (p : Option B) → with2 f o p ≡ option_map (λ x. f x.0 x.1) (option_zip o p)
  unfolding with2
  of_pair f None p = refl
  of_pair f (Some a) None = refl
  of_pair f (Some a) (Some b) = refl

  pub of_pair_then : {C : Type 0} (f : A → B → C → Command) (o : Option A) (p : Option B) (q : Option C)
      → with3 f o p q ≡ option_and_then (λ x. option_map (f x.0 x.1) q) (option_zip o p)
  unfolding with3
  of_pair_then f None p q = refl
  of_pair_then f (Some a) None q = refl
  of_pair_then f (Some a) (Some b) None = refl
  of_pair_then f (Some a) (Some b) (Some c) = refl

-- where the second number has a least value too
module _ {A : Type 0} (f : A → ℕ → Command) where
  tested : (t : Bool) (a : A) (b : ℕ) → with2 f (Some a) (when t then Some b else None) ≡ when t then Some (f a b) else None
  unfolding with2 when◌then◌else◌
  tested true a b = refl
  tested false a b = refl

  pub of_pair_from : (o : Option A) (least : ℕ) (p : Option ℕ)
      → with2 f o (from least p) ≡ option_and_then (λ x. when leb least x.1 then Some (f x.0 x.1) else None) (option_zip o p)
  unfolding with2 from
  of_pair_from None least None = refl
  of_pair_from None least (Some b) = refl
  of_pair_from (Some a) least None = refl
  of_pair_from (Some a) least (Some b) = tested (leb least b) a b

pub both_read : (o p : Option ℕ) (a b : ℕ) → ◌≡◌ {A = Option (ℕ × ℕ)} (Some (a, b)) (option_zip o p) → (o ≡ Some a) × (p ≡ Some b)
both_read None p a b e = absurd (none-some _ (sym e))
both_read (Some c) None a b e = absurd (none-some _ (sym e))
both_read (Some c) (Some d) a b e = let q = some_pair_parts a c b d e in (ap Some (sym q.0), ap Some (sym q.1))

-- the second of two numbers read is within its limit
pub second_limited : (o : Option ℕ) (most : ℕ) (p : Option ℕ) (a b : ℕ) → ◌≡◌ {A = Option (ℕ × ℕ)} (Some (a, b)) (option_zip o (up_to most p))
    → b ≤ most
second_limited o most p a b e = limited most p b (both_read o (up_to most p) a b e).1
