-- What a command is of its letter and fields, and what each field has to be. 01, The driver: "`O n b M`,
-- `I w account total`, `D w account`, `L w account`, `S w k` .., `T` (listing)"; 02, No. 1: "the line is
-- `P w account amount`, an amount being ranged and read like a total". Rests on specs/Numerals of crate numerals and
-- the enum of commands.
use Rattle.std.specs.Prelude.{ℕ, List, eqb, ℤ, Option, Some, None}
use Rattle.machine.specs.Choice.{when◌then◌else◌}
use Rattle.machine.specs.Script.{Line, O, I, D, L, P, S, T}
use Rattle.commands.specs.declared.Command.{Command}
use Rattle.commands.specs.declared.Command.TheVariants.{Open, Insert, Delete, Lookup, Post, Steps, List as Listing}
use Rattle.numerals.specs.Numerals.{numeral, signed_numeral, up_to, from, in64}

-- ---- what a field has to be

-- w, n, b or M: not "over 65,535"
abbrev pub greatest_small : ℕ
greatest_small = 65_535

unfoldable pub small_of : List ℕ → Option ℕ
small_of f = up_to greatest_small (numeral f)

-- "An account is a 32-bit unsigned number"
abbrev pub greatest_account : ℕ
greatest_account = 4_294_967_295

unfoldable pub account_of : List ℕ → Option ℕ
account_of f = up_to greatest_account (numeral f)

-- "a total a 64-bit signed number"
unfoldable pub total_of : List ℕ → Option ℤ
total_of f = in64 (signed_numeral f)

-- 02, No. 1: "an amount being ranged and read like a total"
abbrev pub amount_of : List ℕ → Option ℤ
amount_of f = total_of f

-- "up to k steps, 1 to 9999"
abbrev pub least_steps : ℕ
least_steps = 1

abbrev pub greatest_steps : ℕ
greatest_steps = 9_999

unfoldable pub steps_of : List ℕ → Option ℕ
steps_of f = from least_steps (up_to greatest_steps (numeral f))

-- ---- commands

-- the letters of the commands
abbrev pub open_letter : ℕ
open_letter = 79

abbrev pub insert_letter : ℕ
insert_letter = 73

abbrev pub delete_letter : ℕ
delete_letter = 68

abbrev pub lookup_letter : ℕ
lookup_letter = 76

abbrev pub post_letter : ℕ
post_letter = 80

abbrev pub steps_letter : ℕ
steps_letter = 83

abbrev pub list_letter : ℕ
list_letter = 84

-- a command of two fields, or of three, each of which has to be read
unfoldable pub with2 : {A B : Type 0} → (A → B → Command) → Option A → Option B → Option Command
with2 f None b = None
with2 f (Some a) None = None
with2 f (Some a) (Some b) = Some (f a b)

unfoldable pub with3 : {A B C : Type 0} → (A → B → C → Command) → Option A → Option B → Option C → Option Command
with3 f None b c = None
with3 f (Some a) None c = None
with3 f (Some a) (Some b) None = None
with3 f (Some a) (Some b) (Some c) = Some (f a b c)

-- `T`
unfoldable pub one_field : ℕ → Option Command
one_field letter = when eqb letter list_letter then Some Listing else None

-- `O n b M`, `I w account total`, `D w account`, `L w account`, `P w account amount`, `S w k`
abbrev pub open_command : List ℕ → List ℕ → List ℕ → Option Command
open_command x y z = with3 Open (small_of x) (small_of y) (small_of z)

abbrev pub insert_command : List ℕ → List ℕ → List ℕ → Option Command
insert_command x y z = with3 Insert (small_of x) (account_of y) (total_of z)

abbrev pub delete_command : List ℕ → List ℕ → Option Command
delete_command x y = with2 Delete (small_of x) (account_of y)

abbrev pub lookup_command : List ℕ → List ℕ → Option Command
lookup_command x y = with2 Lookup (small_of x) (account_of y)

abbrev pub post_command : List ℕ → List ℕ → List ℕ → Option Command
post_command x y z = with3 Post (small_of x) (account_of y) (amount_of z)

abbrev pub steps_command : List ℕ → List ℕ → Option Command
steps_command x y = with2 Steps (small_of x) (steps_of y)

unfoldable pub three_fields : ℕ → List ℕ → List ℕ → Option Command
three_fields letter x y =
    when eqb letter delete_letter then delete_command x y
    else when eqb letter lookup_letter then lookup_command x y
    else when eqb letter steps_letter then steps_command x y
    else None

unfoldable pub four_fields : ℕ → List ℕ → List ℕ → List ℕ → Option Command
four_fields letter x y z =
    when eqb letter open_letter then open_command x y z
    else when eqb letter insert_letter then insert_command x y z
    else when eqb letter post_letter then post_command x y z
    else None

-- the line of the machine's script that a command is
unfoldable pub line_of : Command → Line
line_of (Open n b M) = O n b M
line_of (Insert w a t) = I w a t
line_of (Delete w a) = D w a
line_of (Lookup w a) = L w a
line_of (Post w a v) = P w a v
line_of (Steps w k) = S w k
line_of Listing = T
