-- The cases of a round on a bucket's record, in the order in which the code tests them. Rests on the definition of a round.
use Prim.Native.Nat.{ℕ, ◌+◌, ◌*◌}
use native.Mathlib.Omega.{arith}
use mathlib.Core.Path.{◌≡◌, sym, ◌∙◌, ap}
use mathlib.Core.List.{List}
use Rattle.interface.specs.declared.Settings.{Settings}
use Rattle.fields.specs.Fields.{slot_size, worker_toggle, worker_slots, record_applied, record_depth}
use Rattle.machine.proofs.laws.Base.{if_eq, if_ne}
use Rattle.rounds.specs.Rounds.{round_of}
use Rattle.bucket.specs.declared.BucketState.{BucketState}
use Rattle.lists.specs.Parts.{part}
use Rattle.layout.specs.Shape.{word}
use Rattle.record.specs.Bucket.{bucket_at}
use Rattle.storing.specs.Stores.{with_bucket_at}
use Rattle.inplace.specs.InPlace.{round_at}

module _ (l : List ℕ) (s : Settings) (p q a b : ℕ) where
  module _ (toggle : a ≡ word l (p + worker_toggle)) (applied : b ≡ word l (q + record_applied)) where
    pub round_none : a ≡ b → l ≡ round_at l s p q
    unfolding round_at
    round_none e = sym (if_eq (word l (p + worker_toggle)) (word l (q + record_applied)) l _ (omega arith))

    pub round_done :
        (a ≡ b → ⊥) → (x y : BucketState) (slots m : List ℕ) (d : ℕ) → x ≡ bucket_at l s q
        → slots ≡ part l (p + worker_slots) (slot_size * s.workers) → d ≡ word l (q + record_depth)
        → y ≡ round_of x slots s d a → m ≡ with_bucket_at l s q y → m ≡ round_at l s p q
    unfolding round_at
    round_done n x y slots m d ex es ed ey em =
        em ∙ ap (with_bucket_at l s q) (ey ∙ rw (ex, es, ed, toggle))
        ∙ sym (if_ne (word l (p + worker_toggle)) (word l (q + record_applied)) l _ (λ e. n (omega arith)))
