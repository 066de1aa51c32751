-- What a caller of `feed` knows: the used bytes are bytes of the buffer, no more bytes are taken than there are, and one at least where
-- the buffer holds the longest text. Rests on the definitions of specs/Feeding and on the laws of outputs and answers.
use Prim.Native.Nat.{ℕ, suc, ◌+◌, ◌≤◌, ◌<◌}
use mathlib.Core.Path.{◌≡◌, refl}
use mathlib.Core.List.{List, [], ◌∷◌}
use native.Mathlib.Omega.{arith}
use lib.ListN.{length}
use borrow.Author.Tests.{le-leb}
use Rattle.machine.specs.Choice.{when◌then◌else◌}
use Rattle.machine.proofs.laws.Base.{if_elim}
use Rattle.lines.specs.Reading.{command_in}
use Rattle.outputs.specs.Room.{longest, room_for}
use Rattle.outputs.proofs.Within.{Within}
use Rattle.responses.proofs.Answering.{answered_within}
use Rattle.driver.specs.Feeding.{Feeding, took, fed}

-- ---- the used bytes

took_within : (f : Feeding) (b : ℕ) → Within f.state.output → Within (took f b).state.output
unfolding took
took_within f b w =
    if_elim (λ (g : Feeding). Within g.state.output) _ _ _ (λ e. answered_within f.state (command_in f.reader) w) (λ e. w)

pub fed_within : (f : Feeding) (bs : List ℕ) → Within f.state.output → Within (fed f bs).state.output
unfolding fed
fed_within f [] w = w
fed_within f (b ∷ bs) w =
    if_elim (λ (g : Feeding). Within g.state.output) _ _ _ (λ e. fed_within (took f b) bs (took_within f b w)) (λ e. w)

-- ---- the bytes taken

took_taken : (f : Feeding) (b : ℕ) → (took f b).taken ≡ f.taken + 1
unfolding took
took_taken f b = if_elim (λ (g : Feeding). g.taken ≡ f.taken + 1) _ _ _ (λ e. refl) (λ e. refl)

-- from f to g up to n bytes were taken
pub record Taken (f g : Feeding) (n : ℕ) : Type 0 where
  pub least : f.taken ≤ g.taken
  pub most : g.taken ≤ f.taken + n

pub fed_taken : (f : Feeding) (bs : List ℕ) → Taken f (fed f bs) (length bs)
unfolding fed
fed_taken f [] = record { least = omega arith; most = omega arith }
fed_taken f (b ∷ bs) =
    if_elim (λ (g : Feeding). Taken f g (suc (length bs))) _ _ _
    (λ e. let h = fed_taken (took f b) bs in let k = took_taken f b in record { least = omega arith; most = omega arith })
    (λ e. record { least = omega arith; most = omega arith })

-- a first byte is taken where the longest text has room
pub fed_first : (f : Feeding) (bs : List ℕ) → 0 < length bs → f.state.output.used + longest ≤ length f.state.output.bytes
    → f.taken < (fed f bs).taken
unfolding fed room_for when◌then◌else◌
fed_first f [] h k = absurd (omega arith)
fed_first f (b ∷ bs) h k =
    let m = (fed_taken (took f b) bs).least in
    let n = took_taken f b in
    rw (le-leb (f.state.output.used + longest) (length f.state.output.bytes) k) (omega arith)

-- the same of what `feed` answers
module _ (f g : Feeding) (bs : List ℕ) (e : g ≡ fed f bs) where
  pub used_after : f.state.output.used ≤ length f.state.output.bytes → g.state.output.used ≤ length g.state.output.bytes
  used_after h = rw e (fed_within f bs (record { used = h })).used

  pub most_after : g.taken ≤ f.taken + length bs
  most_after = rw e (fed_taken f bs).most

  pub first_after : 0 < length bs → f.state.output.used + longest ≤ length f.state.output.bytes → f.taken < g.taken
  first_after h k = rw e (fed_first f bs h k)
