-- The updates that are due at a marked bucket, as the bits of one number. Rests on single bits of a word and on what a bucket record keeps.
use Prim.Native.Nat.{ℕ, zero, suc, ◌+◌, ◌%◌, ◌^◌, ◌<◌}
use native.Mathlib.Omega.{arith}
use native.Mathlib.Nat.{div-eq_of_lt, pow-suc}
use native.Mathlib.Decide.{ℕ_discrete}
use mathlib.Core.Path.{◌≡◌, refl, ap, sym, ◌∙◌}
use mathlib.Core.Bool.{Bool, true, false, not}
use mathlib.Core.List.{List}
use lib.Dec.{ltb, leb, eqb}
use borrow.Author.Tests.{eq-eqb, ne_eqb}
use Rattle.interface.specs.Limits.{in_range}
use Rattle.interface.specs.Numbers.{kind_none}
use Rattle.interface.specs.declared.Settings.{Settings}
use Rattle.interface.proofs.Laws.{range_of}
use Rattle.machine.specs.Choice.{when◌then◌else◌, ◌and◌}
use Rattle.machine.specs.Sequential.{account, first_bits}
use Rattle.machine.specs.Records.{Name, Body, Bucket, empty, announced}
use Rattle.machine.specs.BucketPass.{settled_at}
use Rattle.machine.proofs.laws.Base.{if_elim}
use Rattle.machine.proofs.laws.Copies.{due}
use Rattle.fields.specs.Fields.{record_depth, record_prefix}
use Rattle.fields.specs.Regions.{read_at, record', start_of}
use Rattle.rules.specs.declared.Descriptor.{Descriptor}
use Rattle.rules.specs.Rules.{bit, descriptor_in}
use Rattle.simulation.specs.Buckets.{update_from, slot_from}
use Rattle.layout.specs.Shape.{word}
use Rattle.record.specs.Bucket.{settled_ticket}
use Rattle.taking.specs.Taking.{due_at, dues_at}
use Rattle.rules.proofs.Bits.{bit_set, bit_beside}
use Rattle.simulation.specs.Meaning.{slot_in, name_in, Keeps}
use Rattle.simulation.proofs.frames.Entering.{account-of}
use Rattle.simulation.proofs.own.Answering.{unsettled_is}

-- ---- the bits

bit_above : (x j : ℕ) → x < 2 ^ j → bit x j ≡ 0
unfolding bit
bit_above x j h = ap (λ (k : ℕ). k % 2) (div-eq_of_lt h)

module _ (l : List ℕ) (s : Settings) (p q : ℕ) where
  dues_below : (k : ℕ) → dues_at l s p q k < 2 ^ k
  unfolding dues_at
  dues_below zero = omega arith
  dues_below (suc k) =
      let z = pow-suc 2 k in
      if_elim (λ (x : ℕ). x < 2 ^ suc k) (due_at l s p q k) _ _ (λ e. omega (arith, dues_below k)) (λ e. omega (arith, dues_below k))

  dues_clear : (k : ℕ) → bit (dues_at l s p q k) k ≡ 0
  dues_clear k = bit_above _ k (dues_below k)

  pub dues_bits : (k i : ℕ) → i < k → eqb (bit (dues_at l s p q k) i) 1 ≡ due_at l s p q i
  unfolding dues_at when◌then◌else◌
  dues_bits zero i h = absurd (omega arith)
  dues_bits (suc k) i h = go (dues_bits k i) (ℕ_discrete i k) (due_at l s p q k) refl
    where
      d : ℕ
      d = dues_at l s p q k

      go :
          (i < k → eqb (bit d i) 1 ≡ due_at l s p q i) → Dec (i ≡ k) → (v : Bool) → due_at l s p q k ≡ v
          → eqb (bit (when v then d + 2 ^ k else d) i) 1 ≡ due_at l s p q i
      go ih (yes e) true f = rw e (eq-eqb _ 1 (bit_set d k (dues_clear k)) ∙ sym f)
      go ih (yes e) false f = rw e (ne_eqb (bit d k) 1 (λ (g : bit d k ≡ 1). omega (arith, dues_clear k)) ∙ sym f)
      go ih (no e) true f = ap (λ (x : ℕ). eqb x 1) (bit_beside d k (dues_clear k) i e) ∙ ih (omega arith)
      go ih (no e) false f = ih (omega arith)

-- ---- one update

-- record r keeps bucket y under the name x; worker i's slot as the worker at p has read it
module _ (s : Settings) (range : in_range s.workers s.capacity s.depth ≡ true) (l : List ℕ) (r : ℕ) (x : Name) (y : Bucket)
    (named : name_in s l r ≡ x) (keeps : Keeps s l r y) where
  abbrev q : ℕ
  q = start_of s (record' r)

  abbrev b : Body
  b = y.state.value.body

  pub due-at :
      (p i : ℕ) → i < s.workers
      → due_at l s p (start_of s (record' r)) i ≡ due x y.state.value.body i (slot_in l (read_at p i))
  unfolding due_at slot_from descriptor_in settled_at when◌then◌else◌ ◌and◌
  due-at p i h = go (eqb u.kind kind_none)
    where
      u : Descriptor
      u = descriptor_in l (read_at p i)

      belongs :
          eqb (first_bits (word l (q + record_depth)) u.account) (word l (q + record_prefix))
          ≡ eqb (first_bits x.depth (account (update_from u))) x.prefix
      belongs =
          ap (λ (n : Name). eqb (first_bits n.depth u.account) n.prefix) named
          ∙ ap (λ (a : ℕ). eqb (first_bits x.depth a) x.prefix) (sym (account-of u))

      above : ltb (settled_ticket l s q i) u.ticket ≡ not (leb u.ticket (b.settled i).ticket)
      above =
          let g = range_of s.workers s.capacity s.depth range in unsettled_is s (omega arith) (omega arith) l r y keeps i h
          u.ticket

      go :
          (z : Bool)
          → not z and eqb (first_bits (word l (q + record_depth)) u.account) (word l (q + record_prefix))
          and ltb (settled_ticket l s q i) u.ticket ≡ due x b i (when z then empty else announced (update_from u) u.ticket)
      go true = refl
      go false = λ o. belongs o and above o
