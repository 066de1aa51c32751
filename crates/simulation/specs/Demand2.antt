-- Demand 2: along every list from an accepted opening the words mean the machine after the same entries, and each call
-- on them replies as the machine does. Rests on what words mean, on the lent words as a system, and on a run as steps.
use Rattle.std.specs.Prelude.{ℕ, ◌≤◌, ◌≡◌, List, [], length, ℤ, Option, Some, None, Ok, Err}
use Rattle.interface.specs.declared.Settings.{Settings}
use Rattle.interface.specs.declared.Refusal.{Refusal}
use Rattle.machine.specs.Records.{Machine, opened}
use Rattle.machine.specs.Calls.{settings, lists, declines, listing}
use Rattle.machine.specs.Systems.{Entry, machines, Replied, to_call, to_step, to_listing, to_opening, reply}
use Rattle.machine.specs.History.{refusal_in, state_at}
use Rattle.opening.specs.Opening.{open_words}
use Rattle.runs.specs.Runs.{run_words}
use Rattle.rows.specs.Rows.{listing_words}
use Rattle.simulation.specs.Meaning.{Meaning}
use Rattle.simulation.specs.LentWords.{lent_words, shown_as, Typed, FromOpening}
use Rattle.simulation.specs.Runs.{by_steps}

-- the refusal in a reply, if it is one
unfoldable pub refusal_of : Replied → Option Refusal
refusal_of (to_call (Ok _)) = None
refusal_of (to_call (Err r)) = Some r
refusal_of (to_step x) = refusal_in x
refusal_of (to_listing (lists t)) = None
refusal_of (to_listing (declines r)) = Some r
refusal_of (to_opening (Ok _)) = None
refusal_of (to_opening (Err r)) = Some r

-- A list of entries given to the words l and to an opened machine with as many words lent, by indices.
module _ (s : Settings) (l : List ℕ) (es : List Entry) where
  abbrev pub words_at : ℕ → List ℕ
  words_at = state_at s lent_words l [] es

  abbrev pub machine_at : ℕ → Machine
  machine_at = state_at s (machines s (length l)) opened [] es

  pub record Simulates : Type 0 where
    -- "each step does exactly what the published wait-free procedures do at that step": at every point of the list, its
    -- end included, the words mean the machine after the same entries
    pub means : (i : ℕ) → i ≤ length es → Meaning s (words_at i) (machine_at i)
    -- a call, a step, a listing or an opening made there is replied as the machine replies
    pub replies :
        (i : ℕ) (e : Entry) → i ≤ length es → Typed e
        → reply lent_words (words_at i) e ≡ reply (machines s (length l)) (machine_at i) e
    -- "8 never occurs on the whole of a memory that opening and later calls left"
    pub recognised :
        (i : ℕ) (e : Entry) → i ≤ length es → Typed e
        → refusal_of (reply lent_words (words_at i) e) ≡ Some Refusal.Strange → ⊥
    -- "the listing shows exactly the accounts in the current buckets": what it writes into two lists there, and
    -- answers, is the machine's
    pub listings :
        (i : ℕ) (accounts : List ℕ) (totals : List ℤ) → i ≤ length es
        → listing_words (words_at i) accounts totals
        ≡ shown_as accounts totals (listing (machine_at i) (length accounts) (length totals))
    -- a run made there is its steps, "up to k .., ending early at an answer"
    pub runs : (i w most : ℕ) → i ≤ length es → run_words (words_at i) w most ≡ by_steps (words_at i) w most

abbrev pub Demand2 : Type 0
Demand2 =
    (l : List ℕ) (n b M : ℕ) (es : List Entry) → FromOpening l n b M es
    → Simulates (settings n b M) (open_words l n b M).0 es
