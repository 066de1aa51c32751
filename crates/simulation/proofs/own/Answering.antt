-- What a lookup and a check find in a bucket record's words is what the machine finds in the bucket that the words mean.
-- Rests on what a bucket's state means.
use Prim.Native.Nat.{ℕ, ◌+◌, ◌≤◌, ◌<◌}
use native.Mathlib.Omega.{arith}
use mathlib.Core.Path.{◌≡◌, refl, ap, ap₂, sym, ◌∙◌, subst}
use mathlib.Core.Bool.{not}
use mathlib.Core.List.{List}
use Rattle.std.specs.Prelude.{Some, None}
use lib.Dec.{ltb, leb}
use lib.ListN.{length, take, length-take}
use mir.Syntax.{w64}
use mir.Val.{to_z}
use lib.Seq.{get_or-take, length-take-le}
use Rattle.interface.specs.declared.Settings.{Settings}
use Rattle.interface.specs.declared.Answer.{Answer}
use Rattle.machine.specs.Choice.{when◌then◌else◌, ◌and◌}
use Rattle.machine.specs.Sequential.{Table, find, looked}
use Rattle.machine.specs.Records.{Settled, Body, Bucket}
use Rattle.machine.specs.BucketPass.{full, holds_back, splittable, settled_at, checked}
use Rattle.bucket.specs.declared.BucketState.{BucketState}
use Rattle.arrays.specs.declared.Position.{Position}
use Rattle.arrays.specs.declared.Position.TheVariants.{At, Before}
use Rattle.bucket.specs.State.{array_size, size_of, search_of}
use Rattle.arrays.specs.Arrays.{scan}
use Rattle.rules.specs.Rules.{full_by, holds_back_by, splittable_by, answer_of}
use Rattle.simulation.specs.Buckets.{signed, total_at, settled_of}
use Rattle.bucket.proofs.Laws.{size_is}
use Rattle.arrays.proofs.Laws.{Among, scan_among}
use Rattle.simulation.proofs.buckets.Items.{find_search}
use Rattle.simulation.proofs.buckets.Ties.{full_means, holds_back_means, ltb_not}
use Rattle.fields.specs.Fields.{worker_ticket, record_count, record_depth, accounts_from, totals_from, settled_from, answers_from, posted_from}
use Rattle.fields.specs.Regions.{pool_size, words_needed, record', start_of}
use Rattle.fields.proofs.Regions.{record_inside}
use Rattle.lists.specs.Parts.{part}
use Rattle.lists.proofs.PartLaws.{part_ext}
use Rattle.memory.specs.Words.{least}
use Rattle.record.specs.Loads.{loaded_state}
use Rattle.record.proofs.Runs.{length_copied, get_d_copied}
use Rattle.memory.proofs.Lesser.{least_same}
use Rattle.record.proofs.States.{loaded_count}
use Rattle.layout.specs.Shape.{word}
use Rattle.record.specs.Bucket.{bucket_at, holds_back_at, splittable_at, settled_ticket, settled_answer, settled_total}
use Rattle.updates.specs.Updates.{checked_at}
use Rattle.lookups.specs.Lookups.{found_at, looked_at}
use Rattle.simulation.specs.Meaning.{at, Keeps}

module _ (s : Settings) (narrow : s.capacity ≤ array_size) (few : s.workers ≤ array_size) (l : List ℕ) (r : ℕ) (x : Bucket)
    (keeps : Keeps s l r x) where
  abbrev q : ℕ
  q = start_of s (record' r)

  abbrev b : Body
  b = x.state.value.body

  -- the state that is loaded has all accounts of the record
  abbrev y : BucketState
  y = bucket_at l s q

  pub loaded_all : (bucket_at l s (start_of s (record' r))).count ≡ at s l (record' r) record_count
  unfolding loaded_state
  loaded_all = least_same (at s l (record' r) record_count) s.capacity keeps.size

  pub looked_is :
      words_needed s ≤ length l → r < pool_size s → (a : ℕ)
      → looked_at l s (start_of s (record' r)) a ≡ looked (find x.state.value.body.items a)
  unfolding looked_at search_of found_at total_at looked signed loaded_state
  looked_is enough rn a =
      ap (λ (xs : List ℕ). found_at l s q (scan xs a 0)) accounts ∙ found (search_of y a) below
      ∙ ap looked (sym (find_search y keeps.state.sound a)) ∙ ap (λ (t : Table). looked (find t a)) keeps.state.items
    where
      c : ℕ
      c = y.count

      small : c ≤ s.capacity
      small = loaded_count l q s.capacity s.workers

      accounts : part l (accounts_from q) (least (at s l (record' r) record_count) s.capacity) ≡ take (size_of y) y.accounts
      accounts =
          let e = length_copied l (accounts_from q) c in
          let n = length-take-le c y.accounts (omega (arith, small)) in
          part_ext l (accounts_from q) c (take c y.accounts) (omega (arith, small, record_inside s r rn)) n
          (λ i h. sym (get_or-take c y.accounts i 0 h ∙ get_d_copied l (accounts_from q) c i (omega (arith, small)) h))
          ∙ ap (λ (k : ℕ). take k y.accounts) (sym (size_is y keeps.state.sound.count))

      below : Among c (search_of y a)
      below =
          let e = size_is y keeps.state.sound.count in
          let long : 0 + length (take (size_of y) y.accounts) ≡ c = omega (arith, length-take (size_of y) y.accounts) in
          subst (λ (k : ℕ). Among k (search_of y a)) long (scan_among (take (size_of y) y.accounts) a 0)

      found : (p : Position) → Among c p → found_at l s q p ≡ looked (total_at y p)
      found (At i) h =
          ap (λ (w : ℕ). Answer.Found (to_z w64 w)) (sym (get_d_copied l (totals_from q s.capacity) c i (omega (arith, small)) h))
      found (Before i) h = refl

  pub full_is : full_by s (at s l (record' r) record_count) ≡ full s b
  full_is = ap (full_by s) (sym loaded_all) ∙ full_means s _ _ s.workers keeps.state

  pub holds_back_is : holds_back_at l s (start_of s (record' r)) ≡ holds_back s (at s l (record' r) record_depth) x.state.value.body
  holds_back_is =
      let d : ℕ = at s l (record' r) record_depth in
      ap (holds_back_by s d) (sym loaded_all) ∙ holds_back_means s _ _ s.workers keeps.state d

  pub splittable_is : splittable_at l s (start_of s (record' r)) ≡ splittable s (at s l (record' r) record_depth) x.state.value.body
  unfolding splittable_by splittable
  splittable_is = λ i. full_is i and ltb (at s l (record' r) record_depth) s.depth

  module _ (w : ℕ) (wn : w < s.workers) where
    pub ticket_is : settled_ticket l s q w ≡ (b.settled w).ticket
    unfolding loaded_state settled_of
    ticket_is =
        sym (get_d_copied l (settled_from q s.capacity) s.workers w few wn)
        ∙ ap (λ (z : Settled). z.ticket) (keeps.state.settled w wn)

    -- a ticket above the one settled
    pub unsettled_is :
        (t : ℕ) → ltb (settled_ticket l s (start_of s (record' r)) w) t ≡ not (leb t (x.state.value.body.settled w).ticket)
    unsettled_is t = ltb_not _ t ∙ ap (λ (k : ℕ). not (leb t k)) ticket_is

    answer_is : answer_of (settled_answer l s q w) (settled_total l s q w) ≡ (b.settled w).answer
    unfolding loaded_state settled_of
    answer_is =
        ap₂ answer_of (sym (get_d_copied l (answers_from q s.capacity s.workers) s.workers w few wn))
        (sym (get_d_copied l (posted_from q s.capacity s.workers) s.workers w few wn))
        ∙ ap (λ (z : Settled). z.answer) (keeps.state.settled w wn)

    pub checked_is :
        (p t : ℕ) → word l (p + worker_ticket) ≡ t → checked_at l s p (start_of s (record' r)) w ≡ checked w t x.state.value.body
    unfolding checked_at checked settled_at
    checked_is p t e = λ i. when leb (e i) (ticket_is i) then Some (answer_is i) else None
