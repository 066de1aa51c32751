-- Input taken byte by byte: where feeding stops, and how it goes on. Rests on the definitions of specs/Feeding.
use Prim.Native.Nat.{ℕ, zero, suc, ◌+◌, ◌≤◌, ◌<◌}
use mathlib.Core.Path.{◌≡◌}
use mathlib.Core.Bool.{Bool, true, false}
use mathlib.Core.List.{List, [], ◌∷◌}
use Rattle.std.specs.Prelude.{Option}
use native.Mathlib.Numerals.{add-one}
use native.Mathlib.Omega.{arith}
use lib.IntN.{ℤ}
use lib.ListN.{length, drop, get_or}
use lib.Seq.{drop-cons, drop-nil}
use borrow.Author.Tests.{eq-eqb, ne_eqb}
use Rattle.machine.specs.Choice.{when◌then◌else◌}
use Rattle.commands.specs.declared.Command.{Command}
use Rattle.lines.specs.declared.reader.Reader.{Reader}
use Rattle.lines.specs.Reading.{fresh, pushed, command_in}
use Rattle.outputs.specs.Outputs.{DriverState, state_of}
use Rattle.outputs.specs.Room.{longest, room_for}
use Rattle.responses.specs.Answers.{answered}
use Rattle.driver.specs.Feeding.{Feeding, feeding_of, took, fed}

-- the same in each part
pub same_feeding : {words words' accounts accounts' : List ℕ} {totals totals' : List ℤ} {bytes bytes' : List ℕ} {reader reader' : Reader}
    {used used' : ℕ} (i : ℕ) → words ≡ words' → accounts ≡ accounts' → totals ≡ totals' → bytes ≡ bytes' → reader ≡ reader' → used ≡ used'
    → feeding_of (state_of words accounts totals bytes used) reader i ≡ feeding_of (state_of words' accounts' totals' bytes' used') reader' i
same_feeding i e f g h k m = rw (e, f, g, h, k, m)

-- the next byte, by what it is
module _ (f : Feeding) (b : ℕ) where
  pub took_line : (s : DriverState) (c : Option Command) (r : Reader) → b ≡ 10 → c ≡ command_in f.reader → s ≡ answered f.state c → r ≡ fresh
      → ◌≡◌ {A = Feeding} (record { state = s; reader = r; taken = f.taken + 1 }) (took f b)
  unfolding took when◌then◌else◌
  took_line s c r e g h k = rw (eq-eqb b 10 e, h, g, k)

  pub took_byte : (r : Reader) → (b ≡ 10 → ⊥) → r ≡ pushed f.reader b
      → ◌≡◌ {A = Feeding} (record { state = f.state; reader = r; taken = f.taken + 1 }) (took f b)
  unfolding took when◌then◌else◌
  took_byte r e k = rw (ne_eqb b 10 e, k)

drop_past : (i : ℕ) (l : List ℕ) → length l ≤ i → drop i l ≡ []
drop_past i [] h = drop-nil i
drop_past zero (x ∷ l) h = absurd (omega arith)
drop_past (suc i) (x ∷ l) h = drop_past i l (omega arith)

module _ (f : Feeding) (input : List ℕ) (i : ℕ) where
  pub fed_end : length input ≤ i → f ≡ fed f (drop i input)
  unfolding fed
  fed_end h = rw (drop_past i input h)

  pub fed_full : (t : Bool) → i < length input → t ≡ room_for longest (length f.state.output.bytes) f.state.output.used → t ≡ false
      → f ≡ fed f (drop i input)
  unfolding fed when◌then◌else◌
  fed_full t h e g = rw (drop-cons input i 0 h, ← e, g)

  pub fed_next : (t : Bool) (g : Feeding) → i < length input
      → t ≡ room_for longest (length f.state.output.bytes) f.state.output.used
      → t ≡ true
      → g ≡ took f (get_or input i 0) → fed g (drop (i + 1) input) ≡ fed f (drop i input)
  unfolding fed when◌then◌else◌
  fed_next t g h e k m = rw (drop-cons input i 0 h, ← e, k, add-one, m)
