-- A taken update put together from its parts, and the turns of the loops over workers.
-- Rests on the definitions of the taken updates.
use Prim.Native.Nat.{ℕ, ◌+◌, ◌/◌, ◌%◌, ◌^◌, ◌<◌}
use native.Mathlib.Nat.{two-pow-succ}
use native.Mathlib.Numerals.{add-one}
use native.Mathlib.Omega.{arith}
use mathlib.Core.Path.{◌≡◌, refl, sym, ◌∙◌}
use mathlib.Core.Bool.{Bool, true, false, not}
use mathlib.Core.List.{List}
use lib.Dec.{ltb, eqb}
use borrow.Author.Tests.{eq-eqb, ne_eqb}
use Rattle.interface.specs.Numbers.{kind_none}
use Rattle.interface.specs.declared.Settings.{Settings}
use Rattle.machine.specs.Choice.{when◌then◌else◌, ◌and◌}
use Rattle.fields.specs.Fields.{slot_kind, slot_account, slot_ticket, record_depth, record_prefix}
use Rattle.fields.specs.Regions.{read_at}
use Rattle.machine.proofs.laws.Base.{if_true, if_false}
use Rattle.machine.specs.Sequential.{first_bits}
use Rattle.rules.specs.Rules.{bit, descriptor_in}
use Rattle.rounds.specs.Rounds.{carry_of}
use Rattle.rules.specs.declared.Descriptor.{Descriptor}
use Rattle.bucket.specs.declared.BucketState.{BucketState}
use Rattle.layout.specs.Shape.{word}
use Rattle.layout.specs.Addresses.{record_of}
use Rattle.record.specs.Bucket.{bucket_at, holds_back_at, settled_ticket}
use Rattle.storing.specs.Stores.{with_bucket_at}
use Rattle.taking.specs.Taking.{carried_at, taken_at, due_at, dues_at, taken_all}
use Rattle.splits.specs.Splits.{split_while_at}

-- ---- one update

pub carried_is : (l z : List ℕ) (s : Settings) (p i q : ℕ) (u : Descriptor) (x y : BucketState) → x ≡ bucket_at l s q
    → u ≡ descriptor_in l (read_at p i) → y ≡ carry_of x s i u → z ≡ with_bucket_at l s q y → z ≡ carried_at l s p i q
unfolding carried_at
carried_is l z s p i q u x y e f g h = rw (h, g, f, e)

module _ (l m : List ℕ) (s : Settings) (p i a b q : ℕ) (t : Bool) (e : a ≡ word l (read_at p i + slot_account))
    (f : m ≡ split_while_at l s a s.depth) (g : b ≡ word m (read_at p i + slot_account)) (h : q ≡ record_of m s b)
    (k : t ≡ holds_back_at m s q) where
  taken_from : taken_at l s p i ≡ when t then m else carried_at m s p i q
  unfolding taken_at
  taken_from = rw (k, h, g, f, e)

  pub taken_back : t ≡ true → m ≡ taken_at l s p i
  taken_back d = sym (taken_from ∙ if_true _ _ d)

  pub taken_carried : (z : List ℕ) → t ≡ false → z ≡ carried_at m s p i q → z ≡ taken_at l s p i
  taken_carried z d c = c ∙ sym (taken_from ∙ if_false _ _ d)

-- ---- the updates that are due

-- there is an update, and it belongs to the bucket
abbrev pub belongs : List ℕ → ℕ → ℕ → ℕ → Bool
belongs l p q i =
    not (eqb (word l (read_at p i + slot_kind)) kind_none)
    and eqb (first_bits (word l (q + record_depth)) (word l (read_at p i + slot_account))) (word l (q + record_prefix))

module _ (l : List ℕ) (p q i x : ℕ) (e : x ≡ word l (read_at p i + slot_kind)) where
  pub belongs_none : x ≡ kind_none → not (eqb x kind_none) ≡ belongs l p q i
  unfolding ◌and◌
  belongs_none h = rw (e, eq-eqb (word l (read_at p i + slot_kind)) kind_none (sym e ∙ h))

  pub belongs_here :
      (x ≡ kind_none → ⊥) → (a d y o : ℕ) → d ≡ word l (q + record_depth) → a ≡ word l (read_at p i + slot_account) → y ≡ first_bits d a
      → o ≡ word l (q + record_prefix) → eqb y o ≡ belongs l p q i
  unfolding ◌and◌
  belongs_here n a d y o f g h k = rw (ne_eqb (word l (read_at p i + slot_kind)) kind_none (λ z. n (e ∙ z)), h, k, f, g)

module _ (l : List ℕ) (s : Settings) (p q i : ℕ) (v : Bool) (e : v ≡ belongs l p q i) where
  pub due_apart : v ≡ false → v ≡ due_at l s p q i
  unfolding due_at ◌and◌
  due_apart h = rw (← e, h)

  pub due_here : v ≡ true → (t u : ℕ) → t ≡ settled_ticket l s q i → u ≡ word l (read_at p i + slot_ticket) → ltb t u ≡ due_at l s p q i
  unfolding due_at ◌and◌
  due_here h t u f g = rw (← e, h, f, g)

-- the bits of the workers below i
pub record Dues (l : List ℕ) (s : Settings) (p q b i : ℕ) : Type 0 where
  pub bits : b ≡ dues_at l s p q i
  pub small : b < 2 ^ i

pub dues_start : (l : List ℕ) (s : Settings) (p q : ℕ) → Dues l s p q 0 0
unfolding dues_at
dues_start l s p q = record { bits = refl; small = omega arith }

module _ (l : List ℕ) (s : Settings) (p q b i : ℕ) (t : Bool) (known : Dues l s p q b i) (e : t ≡ due_at l s p q i) where
  pub dues_more : (x y : ℕ) → t ≡ true → x ≡ 2 ^ i → y ≡ b + x → Dues l s p q y (i + 1)
  unfolding dues_at when◌then◌else◌
  dues_more x y h f g =
      let d : Dues l s p q b i = known in
      record { bits = rw (add-one, sym e ∙ h, ← d.bits, ← f) g; small = rw (add-one, two-pow-succ) (omega arith) }

  pub dues_same : (y : ℕ) → t ≡ false → y ≡ b → Dues l s p q y (i + 1)
  unfolding dues_at when◌then◌else◌
  dues_same y h g =
      let d : Dues l s p q b i = known in
      record { bits = rw (add-one, sym e ∙ h) (g ∙ d.bits); small = rw (add-one, two-pow-succ) (omega arith) }

-- ---- all updates of a bucket

module _ (l m : List ℕ) (s : Settings) (p b i : ℕ) (e : m ≡ taken_all l s p b i) where
  pub all_more : (z : List ℕ) → b / 2 ^ i % 2 ≡ 1 → z ≡ taken_at m s p i → z ≡ taken_all l s p b (i + 1)
  unfolding taken_all when◌then◌else◌ bit
  all_more z h f = rw (add-one, eq-eqb (b / 2 ^ i % 2) 1 h, ← e) f

  pub all_same : (b / 2 ^ i % 2 ≡ 1 → ⊥) → m ≡ taken_all l s p b (i + 1)
  unfolding taken_all when◌then◌else◌ bit
  all_same h = rw (add-one, ne_eqb (b / 2 ^ i % 2) 1 h) e
