-- A run as steps: what `run` is by `step` alone, and lists of entries with runs, each run replaced by its steps.
-- Rests on the definitions that the calls' contracts equal, and on the statement of demand 3.
use Rattle.std.specs.Prelude.{ℕ, zero, suc, ◌+◌, ◌<◌, ◌≡◌, List, [], ◌∷◌, ◌++◌, length, get_or, take, replicate, Result, Ok, Err}
use Rattle.interface.specs.declared.Settings.{Settings}
use Rattle.interface.specs.declared.Stepped.{Stepped}
use Rattle.interface.specs.declared.Ran.{Ran}
use Rattle.machine.specs.Calls.{settings}
use Rattle.machine.specs.Systems.{Entry, stepping, showing, next}
use Rattle.machine.specs.History.{entry_at, state_at, Linearizable}
use Rattle.turns.specs.Turns.{step_words}
use Rattle.runs.specs.Runs.{run_words}
use Rattle.opening.specs.Opening.{open_words}
use Rattle.simulation.specs.LentWords.{lent_words, FromOpening}
use Rattle.interface.specs.declared.Refusal.{Refusal}

-- ---- one run

-- a step left the words l and replied so; later is the run that goes on from there
unfoldable pub goes_on : List ℕ → Stepped → List ℕ × Result Ran Refusal → List ℕ × Result Ran Refusal
goes_on l Stepped.Moved later = later
goes_on l (Stepped.Answered c) later = (l, Ok (Ran.Answered c))
goes_on l (Stepped.Refused r) later = (l, Err r)

-- up to f steps of worker w, k taken before: the first one answered or refused ends them
unfoldable pub iterated : List ℕ → ℕ → ℕ → ℕ → List ℕ × Result Ran Refusal
iterated l w k zero = (l, Ok (Ran.Moved k))
iterated l w k (suc f) = goes_on (step_words l w).0 (step_words l w).1 (iterated (step_words l w).0 w (suc k) f)

-- a run of no steps is refused where a step would be
unfoldable pub checked_only : Stepped → Result Ran Refusal
checked_only Stepped.Moved = Ok (Ran.Moved 0)
checked_only (Stepped.Answered c) = Ok (Ran.Moved 0)
checked_only (Stepped.Refused r) = Err r

-- "up to k steps .., ending early at an answer"
unfoldable pub by_steps : List ℕ → ℕ → ℕ → List ℕ × Result Ran Refusal
by_steps l w zero = (l, checked_only (step_words l w).1)
by_steps l w (suc f) = iterated l w 0 (suc f)

-- ---- its steps, one by one

-- the words after i steps of worker w
unfoldable pub after_steps : List ℕ → ℕ → ℕ → List ℕ
after_steps l w zero = l
after_steps l w (suc i) = after_steps (step_words l w).0 w i

-- what step i of them replies
abbrev pub reply_at : List ℕ → ℕ → ℕ → Stepped
reply_at l w i = (step_words (after_steps l w i) w).1

-- a step that replied so is counted, with the later ones if it moved
unfoldable pub counting : Stepped → ℕ → ℕ
counting Stepped.Moved later = suc later
counting (Stepped.Answered c) later = 1
counting (Stepped.Refused r) later = 1

-- how many steps a run of up to f is; a refused one is one refused step
unfoldable pub steps_taken : List ℕ → ℕ → ℕ → ℕ
steps_taken l w zero = 0
steps_taken l w (suc f) = counting (step_words l w).1 (steps_taken (step_words l w).0 w f)

-- what a run of n steps replies, by the reply to its last one
unfoldable pub ran_as : ℕ → Stepped → Result Ran Refusal
ran_as n Stepped.Moved = Ok (Ran.Moved n)
ran_as n (Stepped.Answered c) = Ok (Ran.Answered c)
ran_as n (Stepped.Refused r) = Err r

pub record RunAsSteps (l : List ℕ) (w most : ℕ) : Type 0 where
  pub words : (run_words l w most).0 ≡ after_steps l w (steps_taken l w most)
  -- every step but the last one moved
  pub earlier : (i : ℕ) → suc i < steps_taken l w most → reply_at l w i ≡ Stepped.Moved
  -- the run's reply is the last one's
  pub last : (i : ℕ) → suc i ≡ steps_taken l w most → (run_words l w most).1 ≡ ran_as (suc i) (reply_at l w i)
  -- all steps that were asked for are taken, where the last one moved
  pub whole : (i : ℕ) → suc i ≡ steps_taken l w most → reply_at l w i ≡ Stepped.Moved → steps_taken l w most ≡ most
  -- no step was asked for
  pub nothing : most ≡ 0 → (run_words l w most).1 ≡ checked_only (step_words l w).1

-- ---- lists with runs

-- an entry of demand 3's lists, or a run: its worker, and the most steps
pub data Request : Type 0 where
  plain : Entry → Request
  running : ℕ → ℕ → Request

-- the words that a request leaves
unfoldable pub left : List ℕ → Request → List ℕ
left l (plain e) = next lent_words l e
left l (running w most) = (run_words l w most).0

unfoldable pub left_by_all : List ℕ → List Request → List ℕ
left_by_all l [] = l
left_by_all l (q ∷ qs) = left_by_all (left l q) qs

-- the entries that a request is
unfoldable pub entries_of : List ℕ → Request → List Entry
entries_of l (plain e) = e ∷ []
entries_of l (running w most) = replicate (steps_taken l w most) (stepping w)

-- the list with each run replaced by its steps
unfoldable pub spread : List ℕ → List Request → List Entry
spread l [] = []
spread l (q ∷ qs) = entries_of l q ++ spread (left l q) qs

-- past the end of the list nothing happens
unfoldable pub request_at : List Request → ℕ → Request
request_at qs i = get_or qs i (plain (showing 0 0))

-- A list with runs, from words l on, by the indices of its requests.
module _ (s : Settings) (l : List ℕ) (qs : List Request) where
  -- the words before the request at a position
  abbrev pub words_before : ℕ → List ℕ
  words_before i = left_by_all l (take i qs)

  -- the index of its first entry
  abbrev pub entry_index : ℕ → ℕ
  entry_index i = length (spread l (take i qs))

  abbrev pub entries_at : ℕ → List Entry
  entries_at i = entries_of (words_before i) (request_at qs i)

  pub record LinearizableAsSteps : Type 0 where
    -- before each request, and at the end, the words are those of the list of entries
    pub words : (i : ℕ) → words_before i ≡ state_at s lent_words l [] (spread l qs) (entry_index i)
    -- there its entries stand: a call, a step or a listing is given the same words there, and gets the same reply
    pub entries :
        (i k : ℕ) → i < length qs → k < length (entries_at i)
        → entry_at (spread l qs) (entry_index i + k) ≡ entry_at (entries_at i) k
    -- a run made at any point of the list, its end included, is iterated steps, and gets the reply of the last one
    pub iterates : (i w most : ℕ) → run_words (words_before i) w most ≡ by_steps (words_before i) w most
    pub runs : (i w most : ℕ) → RunAsSteps (words_before i) w most
    -- demand 3 for the list of entries
    pub linearizable : Linearizable s lent_words l [] (spread l qs)

-- for every list with runs: its runs replaced by their steps, it is a list from an accepted opening
abbrev pub Demand3WithRuns : Type 0
Demand3WithRuns =
    (l : List ℕ) (n b M : ℕ) (qs : List Request) → FromOpening l n b M (spread (open_words l n b M).0 qs)
    → LinearizableAsSteps (settings n b M) (open_words l n b M).0 qs
