-- Opening, a call, a step and a run keep the number of words, whatever the words are. Rests on the lengths of steps.
use Prim.Native.Nat.{ℕ, zero, suc, ◌+◌, ◌-◌, ◌%◌, ◌≤◌, ◌<◌}
use native.Mathlib.Omega.{arith}
use mathlib.Core.Path.{◌≡◌, refl, sym, ◌∙◌, subst⁻¹}
use mathlib.Core.List.{List}
use Rattle.std.specs.Prelude.{Option, Some, None, Result, Ok, Err}
use lib.Dec.{leb, eqb}
use lib.ListN.{length, set, length-set, length-append, length-replicate}
use lib.IntN.{ℤ}
use borrow.Author.Tests.{leb-true, leb-false}
use Rattle.interface.specs.Numbers.{kind_none, kind_lookup}
use Rattle.interface.specs.Limits.{built}
use Rattle.interface.specs.declared.Settings.{Settings}
use Rattle.interface.specs.declared.Answer.{Answer}
use Rattle.interface.specs.declared.Ran.{Ran}
use Rattle.machine.specs.Plan.{Phase, announce, read_directory, flip_toggle, read_state, read_toggle, swap_state, check_state, copy_directory, swap_directory, read_slot, resize_for, phase}
use Rattle.fields.specs.Fields.{header_number, slot_size, worker_kind, worker_steps, steps_range, worker_state, worker_directory, record_number, widest_record}
use Rattle.fields.specs.Regions.{slot_at, worker_at, read_at, words_needed}
use Rattle.machine.proofs.laws.Base.{if_elim}
use Rattle.machine.proofs.laws.PlanBounds.{Below, phase_below}
use Rattle.rules.specs.Rules.{bit}
use Rattle.lists.specs.Parts.{part, overlay}
use Rattle.lists.proofs.PartLaws.{length_part, length_overlay}
use Rattle.memory.specs.Words.{least}
use Rattle.layout.specs.Shape.{word, strange, shape_of, Fits, Whole}
use Rattle.layout.specs.Addresses.{held_by, marked_at, bucket_read_at}
use Rattle.layout.proofs.Checks.{fits_of}
use Rattle.layout.proofs.Positions.{fits_kept, placed, held_inside}
use Rattle.spares.proofs.PoolLaws.{whole_kept}
use Rattle.engine.specs.Engine.{slot_read_at, flipped_at, state_read_at, toggle_read_at, directory_read_at}
use Rattle.swaps.specs.BucketSwap.{swapped_at}
use Rattle.marks.specs.StateStep.{marks, state_step_at}
use Rattle.taking.specs.Taking.{taken_all}
use Rattle.directory.specs.Directory.{resolved_at, nothing_to_split, redirected_at}
use Rattle.directory.proofs.DirectoryLaws.{whole_else}
use Rattle.simulation.proofs.lengths.StepLengths.{length_announced, length_round, length_taken}
use Rattle.calls.specs.Calls.{ended_at}
use Rattle.updates.specs.Updates.{check_at, update_at, operation_at}
use Rattle.lookups.specs.Lookups.{lookup_at}
use Rattle.calls.specs.Calls.{begun_at, call_in, call_words}
use Rattle.opening.specs.Opening.{fresh_words, opened_words, open_words}
use Rattle.turns.specs.Turns.{step_in, step_words}
use Rattle.runs.specs.Runs.{or_else, run_in, longest_run, run_words}
use Rattle.opening.proofs.FreshWords.{fresh_parts}
use Rattle.interface.specs.declared.Refusal.{Refusal}

-- as many words as before
abbrev Long : List ℕ → List ℕ → Type 0
Long l m = length m ≡ length l

-- the same of what a call leaves
abbrev LongAfter : {A : Type 0} → List ℕ → List ℕ × A → Type 0
LongAfter l x = length x.0 ≡ length l

-- ---- the directory swap

module _ (s : Settings) (p : ℕ) where
  length_all : (l : List ℕ) (dues i : ℕ) → Whole l s → Long l (taken_all l s p dues i)
  unfolding taken_all
  length_all l dues zero w = refl
  length_all l dues (suc i) w =
      let e = length_all l dues i w in
      if_elim (Long l) (eqb (bit dues i) 1) _ _ (λ t. length_taken s p (taken_all l s p dues i) i (whole_kept (sym e) w) ∙ e) (λ t. e)

  length_resolved : (l : List ℕ) (j : ℕ) → Whole l s → Long l (resolved_at l s p j)
  unfolding resolved_at
  length_resolved l zero w = refl
  length_resolved l (suc j) w =
      let e = length_resolved l j w in
      if_elim (Long l) (marked_at (resolved_at l s p j) p j) _ _
      (λ t. length_all (resolved_at l s p j) _ s.workers (whole_kept (sym e) w) ∙ e) (λ t. e)

  length_redirected : (l : List ℕ) → Fits l s → Long l (redirected_at l s p)
  unfolding redirected_at
  length_redirected l f =
      if_elim (Long l) (eqb (word l (p + worker_directory)) (word l header_number)) _ l
      (λ t.
      simp length-set
      (if_elim (Long l) (nothing_to_split l s p) l (resolved_at l s p s.workers) (λ n. refl)
      (λ n. length_resolved l s.workers (whole_else l s p f n))))
      (λ t. refl)

-- ---- a step

module _ (l : List ℕ) (s : Settings) (w : ℕ) (f : Fits l s) (known : w < s.workers) where
  abbrev p : ℕ
  p = worker_at s.workers w

  length_slot_read : (j : ℕ) → j < s.workers → Long l (slot_read_at l p j)
  unfolding slot_read_at
  length_slot_read j h =
      let b = placed f w known in
      let n = length_part l (slot_at j) slot_size (omega arith) in
      length_overlay l (read_at p j) (part l (slot_at j) slot_size) (omega arith)

  length_swapped : (q : ℕ) → q + widest_record ≤ length l → Long l (swapped_at l s p q)
  unfolding swapped_at
  length_swapped q h =
      if_elim (Long l) (eqb (word l (p + worker_state)) (word l (q + record_number))) _ l (λ t. simp length-set (length_round l s f p q h))
      (λ t. refl)

  length_ended : (k c : ℕ) (a : Answer) → LongAfter l (ended_at l p k c a)
  unfolding ended_at
  length_ended k c a = simp length-set

  length_check : (k c : ℕ) (o : Option Answer) → LongAfter l (check_at l p k c o)
  unfolding check_at
  length_check k c None = refl
  length_check k c (Some a) = length_ended k c a

  length_update : (k n : ℕ) (x : Phase) → n ≡ s.workers → x ≡ phase n k → LongAfter l (update_at l s p w k x)
  unfolding update_at bucket_read_at flipped_at state_read_at toggle_read_at directory_read_at state_step_at
  length_update k n announce g e = length_announced l s f w known
  length_update k n read_directory g e = simp length-set
  length_update k n flip_toggle g e = simp length-set
  length_update k n read_state g e = simp length-set
  length_update k n read_toggle g e = simp length-set
  length_update k n (read_slot j) g e =
      let h : j < n = subst⁻¹ (Below n) e (phase_below n k) in length_slot_read j (omega arith)
  length_update k n swap_state g e = length_swapped (held_by l p) (held_inside f p)
  length_update k n check_state g e = length_check k _ _
  length_update k n copy_directory g e = simp length-set
  length_update k n (resize_for j) g e = if_elim (Long l) (marks l s p j) _ l (λ t. length-set l _ _) (λ t. refl)
  length_update k n swap_directory g e = length_redirected s p l f

  length_lookup : (k : ℕ) → LongAfter l (lookup_at l s p k)
  unfolding lookup_at bucket_read_at
  length_lookup zero = length-set l _ _
  length_lookup (suc k) = length_ended (suc k) _ _

module _ (l : List ℕ) (s : Settings) (w : ℕ) (f : Fits l s) (known : w < s.workers) where
  length_operation : (k : ℕ) → LongAfter l (operation_at l s (worker_at s.workers w) w k)
  unfolding operation_at
  length_operation k =
      let q : ℕ = worker_at s.workers w in
      let e : length (set l (q + worker_steps) (k + 1)) ≡ length l = length-set l (q + worker_steps) (k + 1) in
      let g : Fits (set l (q + worker_steps) (k + 1)) s = fits_kept (sym e) f in
      if_elim (LongAfter l) (eqb (word l (q + worker_kind)) kind_lookup) _ _ (λ t. length_lookup _ s w g known k ∙ e)
      (λ t. length_update _ s w g known k s.workers _ refl refl ∙ e)

  -- ---- a call

  length_call_in : (kind a : ℕ) (v : ℤ) → LongAfter l (call_in l (worker_at s.workers w) kind a v)
  unfolding call_in begun_at
  length_call_in kind a v =
      if_elim (LongAfter l) _ _ _ (λ t. refl)
      (λ t.
      if_elim (LongAfter l) _ _ _ (λ t. refl)
      (λ t.
      if_elim (LongAfter l) _ _ _ (λ t. simp length-set)
      (λ t. if_elim (LongAfter l) _ _ _ (λ t. refl) (λ t. simp length-set))))

-- ---- a run

length_or : (l m : List ℕ) (o : Option (Result Ran Refusal)) (later : List ℕ × Result Ran Refusal) → Long l m → LongAfter l later → LongAfter l (or_else m o later)
unfolding or_else
length_or l m None later h k = k
length_or l m (Some r) later h k = h

length_run_in : (n : ℕ) (l : List ℕ) (s : Settings) (w k : ℕ) → Fits l s → w < s.workers → LongAfter l (run_in l s w k n)
unfolding run_in
length_run_in zero l s w k f h = refl
length_run_in (suc n) l s w k f h =
    let q : ℕ = worker_at s.workers w in
    let e = length_operation l s w f h (word l (q + worker_steps) % steps_range) in
    if_elim (LongAfter l) (eqb (word l (q + worker_kind)) kind_none) _ _ (λ t. refl)
    (λ t. length_or l _ _ _ e (length_run_in n _ s w (suc k) (fits_kept (sym e) f) h ∙ e))

pub length_call : (l : List ℕ) (w kind a : ℕ) (v : ℤ) → length (call_words l w kind a v).0 ≡ length l
unfolding call_words
length_call l w kind a v =
    if_elim (LongAfter l) (strange l) _ _ (λ t. refl)
    (λ t.
    if_elim (LongAfter l) (leb (shape_of l).workers w) _ _ (λ b. refl)
    (λ b. length_call_in l (shape_of l) w (fits_of l t) (leb-false _ _ b) kind a v))

pub length_step : (l : List ℕ) (w : ℕ) → length (step_words l w).0 ≡ length l
unfolding step_words step_in
length_step l w =
    if_elim (LongAfter l) (strange l) _ _ (λ t. refl)
    (λ t.
    if_elim (LongAfter l) (leb (shape_of l).workers w) _ _ (λ b. refl)
    (λ b.
    if_elim (LongAfter l) (eqb (word l (worker_at (shape_of l).workers w + worker_kind)) kind_none) _ _ (λ z. refl)
    (λ z. length_operation l (shape_of l) w (fits_of l t) (leb-false _ _ b) _)))

pub length_run : (l : List ℕ) (w most : ℕ) → length (run_words l w most).0 ≡ length l
unfolding run_words
length_run l w most =
    if_elim (LongAfter l) (strange l) _ _ (λ t. refl)
    (λ t.
    if_elim (LongAfter l) (leb (shape_of l).workers w) _ _ (λ b. refl)
    (λ b.
    if_elim (LongAfter l) (eqb (word l (worker_at (shape_of l).workers w + worker_kind)) kind_none) _ _ (λ z. refl)
    (λ z. length_run_in (least most longest_run) l (shape_of l) w 0 (fits_of l t) (leb-false _ _ b))))

-- ---- opening

length_fresh : (s : Settings) → length (fresh_words s) ≡ words_needed s
unfolding fresh_words
length_fresh s = let h = fresh_parts s in simp (length-append, length-replicate) (omega arith)

pub length_opened : (l : List ℕ) (s : Settings) → words_needed s ≤ length l → length (overlay l 0 (fresh_words s)) ≡ length l
length_opened l s h = let e = length_fresh s in length_overlay l 0 (fresh_words s) (omega arith)

pub length_open : (l : List ℕ) (n b M : ℕ) → length (open_words l n b M).0 ≡ length l
unfolding open_words opened_words
length_open l n b M = go (built n b M)
  where
    go : (x : Result Settings Refusal) → LongAfter l (opened_words l x)
    go (Err r) = refl
    go (Ok s) =
        if_elim (LongAfter l) (leb (words_needed s) (length l)) _ _ (λ e. length_opened l s (leb-true _ _ e)) (λ e. refl)
