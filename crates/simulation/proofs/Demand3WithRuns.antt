-- Lists with runs: each is the list with its runs replaced by their steps, and demand 3 holds of that.
-- Rests on a run as steps and on demand 3 for the calls.
use Prim.Native.Nat.{ℕ, zero, suc, ◌+◌, ◌<◌}
use native.Mathlib.Omega.{arith}
use native.Mathlib.Nat.{zero-add, suc-add}
use mathlib.Core.Path.{◌≡◌, refl, ap, sym, ◌∙◌, subst⁻¹}
use mathlib.Core.Bool.{true}
use mathlib.Core.List.{List, [], ◌∷◌, ◌++◌}
use lib.ListN.{length, take, replicate, length-append, get_or-append}
use lib.Seq.{get_or-append-add}
use Rattle.interface.specs.Limits.{in_range}
use Rattle.interface.specs.declared.Settings.{Settings}
use Rattle.machine.specs.Records.{Machine}
use Rattle.machine.specs.Calls.{settings}
use Rattle.machine.specs.Systems.{Entry, stepping, next}
use Rattle.machine.specs.History.{entry_at, state_at}
use Rattle.turns.specs.Turns.{step_words}
use Rattle.opening.specs.Opening.{open_words}
use Rattle.simulation.specs.LentWords.{lent_words}
use Rattle.simulation.specs.Runs.{after_steps, steps_taken, Request, plain, running, left, left_by_all}
use Rattle.simulation.specs.Runs.{entries_of, spread, request_at, Demand3WithRuns}
use Rattle.simulation.proofs.Represents.{Represents, represents_at, started}
use Rattle.simulation.proofs.Demand3ForCalls.{demand3_on_words}
use Rattle.simulation.proofs.runs.RunIterates.{run_iterates}
use Rattle.simulation.proofs.runs.RunSteps.{run_as_steps}

-- ---- the words after a list of entries

left_by_entries : List ℕ → List Entry → List ℕ
left_by_entries l [] = l
left_by_entries l (e ∷ es) = left_by_entries (next lent_words l e) es

module _ (s : Settings) where
  -- the words at a position of the list after its first entry
  state_later :
      (l : List ℕ) (e : Entry) (es : List Entry) (i : ℕ)
      → state_at s lent_words l [] (e ∷ es) (suc i) ≡ state_at s lent_words (next lent_words l e) [] es i
  unfolding state_at entry_at
  state_later l e es zero = refl
  state_later l e es (suc i) = ap (λ (k : List ℕ). next lent_words k (entry_at es i)) (state_later l e es i)

  -- and after some of its entries
  state_append :
      (l : List ℕ) (xs ys : List Entry) (i : ℕ)
      → state_at s lent_words l [] (xs ++ ys) (length xs + i) ≡ state_at s lent_words (left_by_entries l xs) [] ys i
  unfolding left_by_entries
  state_append l [] ys i = rw zero-add
  state_append l (e ∷ xs) ys i = rw suc-add (state_later l e (xs ++ ys) (length xs + i) ∙ state_append (next lent_words l e) xs ys i)

  steps_left : (w n : ℕ) (l : List ℕ) → left_by_entries l (replicate n (stepping w)) ≡ after_steps l w n
  unfolding left_by_entries after_steps next
  steps_left w zero l = refl
  steps_left w (suc n) l = steps_left w n (step_words l w).0

-- ---- the entries of the requests

entries_stand :
    (qs : List Request) (l : List ℕ) (i k : ℕ) → i < length qs → k < length (entries_of (left_by_all l (take i qs)) (request_at qs i))
    → entry_at (spread l qs) (length (spread l (take i qs)) + k) ≡ entry_at (entries_of (left_by_all l (take i qs)) (request_at qs i)) k
unfolding spread left_by_all request_at entry_at
entries_stand [] l i k h q = absurd (omega arith)
entries_stand (r ∷ qs) l zero k h q = rw zero-add (get_or-append (entries_of l r) (spread (left l r) qs) _ k q)
entries_stand (r ∷ qs) l (suc i) k h q =
    let before : List Entry = spread (left l r) (take i qs) in
    let e : length (entries_of l r ++ before) + k ≡ length (entries_of l r) + (length before + k) =
    omega (arith, length-append (entries_of l r) before) in
    ap (entry_at (entries_of l r ++ spread (left l r) qs)) e ∙ get_or-append-add (entries_of l r) (spread (left l r) qs) (length before + k) _
    ∙ entries_stand qs (left l r) i k (omega arith) q

-- ---- on words that mean a machine

module _ (s : Settings) (range : in_range s.workers s.capacity s.depth ≡ true) where
  -- the words mean some machine
  abbrev Meaningful : List ℕ → Type 0
  Meaningful l = (m : Machine) × Represents s l m

  -- a request leaves what its entries leave
  request_left : (q : Request) (l : List ℕ) → Meaningful l → left_by_entries l (entries_of l q) ≡ left l q
  unfolding left left_by_entries entries_of
  request_left (plain e) l h = refl
  request_left (running w most) l h = steps_left s w (steps_taken l w most) l ∙ sym (run_as_steps s range l h.0 h.1 w most).words

  -- the words mean some machine all along the list of entries
  abbrev AlwaysMeaningful : List Request → List ℕ → Type 0
  AlwaysMeaningful qs l = (i : ℕ) → Meaningful (state_at s lent_words l [] (spread l qs) i)

  first_meaningful : (qs : List Request) (l : List ℕ) → AlwaysMeaningful qs l → Meaningful l
  unfolding state_at
  first_meaningful qs l h = h 0

  -- the words i entries after the first request
  state_after :
      (q : Request) (qs : List Request) (l : List ℕ) → Meaningful l → (i : ℕ)
      → state_at s lent_words (left l q) [] (spread (left l q) qs) i
      ≡ state_at s lent_words l [] (spread l (q ∷ qs)) (length (entries_of l q) + i)
  unfolding spread
  state_after q qs l h i =
      ap (λ (k : List ℕ). state_at s lent_words k [] (spread (left l q) qs) i) (sym (request_left q l h))
      ∙ sym (state_append s l (entries_of l q) (spread (left l q) qs) i)

  later_meaningful : (q : Request) (qs : List Request) (l : List ℕ) → AlwaysMeaningful (q ∷ qs) l → AlwaysMeaningful qs (left l q)
  later_meaningful q qs l h i = subst⁻¹ Meaningful (state_after q qs l (first_meaningful (q ∷ qs) l h) i) (h (length (entries_of l q) + i))

  -- the words before each request are those before its entries
  words_stand :
      (qs : List Request) (l : List ℕ) → AlwaysMeaningful qs l → (i : ℕ)
      → left_by_all l (take i qs) ≡ state_at s lent_words l [] (spread l qs) (length (spread l (take i qs)))
  unfolding left_by_all spread state_at
  words_stand qs l h zero = refl
  words_stand [] l h (suc i) = refl
  words_stand (q ∷ qs) l h (suc i) =
      words_stand qs (left l q) (later_meaningful q qs l h) i
      ∙ state_after q qs l (first_meaningful (q ∷ qs) l h) (length (spread (left l q) (take i qs)))
      ∙ ap (state_at s lent_words l [] (entries_of l q ++ spread (left l q) qs))
      (sym (length-append (entries_of l q) (spread (left l q) (take i qs))))

-- Demand 3 for lists with runs.
pub demand3_with_runs : Demand3WithRuns
demand3_with_runs l n b M qs f =
    let s = settings n b M in
    let k = (open_words l n b M).0 in
    let g = started l n b M f.accepted in
    let h : AlwaysMeaningful s g.range qs k =
    λ i. (_, represents_at s g.range k (spread k qs) g.represents f.typed f.refused i) in
    let words = words_stand s g.range qs k h in
    let before : (i : ℕ) → (m : Machine) × Represents s (left_by_all k (take i qs)) m =
    λ i. subst⁻¹ (λ (x : List ℕ). (m : Machine) × Represents s x m) (words i) (h _) in
    record {
      words = words;
      entries = entries_stand qs k;
      iterates = λ i w most. run_iterates s g.range _ (before i).0 (before i).1 w most;
      runs = λ i w most. run_as_steps s g.range _ (before i).0 (before i).1 w most;
      linearizable = demand3_on_words l n b M (spread k qs) f;
    }
