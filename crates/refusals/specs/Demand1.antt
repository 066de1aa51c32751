-- Demand 1 for the library's calls, over any words and arguments, and the same for the C functions: what is refused
-- under which number, and that a refusal leaves all as it was. Rests on the checks and on the definitions that the
-- calls' contracts equal.
use Rattle.std.specs.Prelude.{ℕ, ◌≤◌, ◌<◌, ◌≡◌, ◌≢◌, List, length, drop, replicate, ℤ, Result, Ok, Err}
use Rattle.interface.specs.Limits.{built}
use Rattle.interface.specs.Numbers.{number_of}
use Rattle.interface.specs.declared.Refusal.{Refusal}
use Rattle.interface.specs.declared.Stepped.{Stepped}
use Rattle.interface.specs.declared.Ran.{Ran}
use Rattle.opening.specs.Opening.{needed_for, open_words}
use Rattle.calls.specs.Calls.{call_words}
use Rattle.turns.specs.Turns.{step_words}
use Rattle.runs.specs.Runs.{run_words}
use Rattle.rows.specs.Rows.{Shown, listing_words}
use Rattle.report.specs.Report.{answer_base}
use Rattle.numbers.specs.Returned.{needed_number, done_number}
use Rattle.capi.specs.Flat.{flat, Left, step_left, run_left, Written, list_written}
use Rattle.refusals.specs.Checks.{Check, needed_checks, opening_checks, call_checks, step_checks, listing_checks, TurnedDown}

-- ---- the library's calls

-- turned down with the answer `refused r`, which a caller takes for a refusal whatever r is
abbrev pub RefusedBy : {L A : Type 0} → (Refusal → A) → List Check → L → L × A → Type 0
RefusedBy {A = A} refused = TurnedDown refused (λ (a : A). (r : Refusal) × (a ≡ refused r))

-- both lists after a listing, and its answer
unfoldable pub lists_of : Shown → (List ℕ × List ℤ) × Result ℕ Refusal
lists_of x = ((x.accounts, x.totals), x.listed)

-- a list has room for k items, and past these it is as it was
pub record KeptPast {A : Type 0} (k : ℕ) (before after : List A) : Type 0 where
  pub room : k ≤ length before
  pub long : length after ≡ length before
  pub past : drop k after ≡ drop k before

-- both lists are so, where the listing answers a count
abbrev pub PastCount : List ℕ → List ℤ → Shown → Type 0
PastCount accounts totals x =
    (k : ℕ) → x.listed ≡ Ok k → KeptPast k accounts x.accounts × KeptPast k totals x.totals

-- every call over these words but an opening is refused with 8, and all is as it was
pub record AllStrange (l : List ℕ) : Type 0 where
  pub call : (w kind a : ℕ) (v : ℤ) → call_words l w kind a v ≡ (l, Err Refusal.Strange)
  pub step : (w : ℕ) → step_words l w ≡ (l, Stepped.Refused Refusal.Strange)
  pub run : (w most : ℕ) → run_words l w most ≡ (l, Err Refusal.Strange)
  pub listing :
      (accounts : List ℕ) (totals : List ℤ)
      → listing_words l accounts totals
      ≡ record { accounts = accounts; totals = totals; listed = Err Refusal.Strange }

-- Demand 1.
pub record Demand1 : Type 0 where
  -- "told by a public call, which answers 1 for wrong settings": nothing is lent
  pub needed : (n b M : ℕ) → RefusedBy Err (needed_checks n b M) (tt {0}) (tt, needed_for (built n b M))
  -- "Opening checks 1, 2"
  pub opening :
      (l : List ℕ) (n b M : ℕ) → RefusedBy Err (opening_checks l n b M) l (open_words l n b M)
  -- "A call checks 8, 3, 4, 6, 7."
  pub call :
      (l : List ℕ) (w kind a : ℕ) (v : ℤ) → RefusedBy Err (call_checks l w kind) l (call_words l w kind a v)
  -- "A step checks 8, 3, 5."
  pub step : (l : List ℕ) (w : ℕ) → RefusedBy Stepped.Refused (step_checks l w) l (step_words l w)
  -- "up to k steps": as a step
  pub run : (l : List ℕ) (w most : ℕ) → RefusedBy Err (step_checks l w) l (run_words l w most)
  -- "The listing checks 8, 10"
  pub listing :
      (l accounts : List ℕ) (totals : List ℤ)
      → RefusedBy Err (listing_checks l accounts totals) (accounts, totals)
      (lists_of (listing_words l accounts totals))
  -- "and nothing past the count"
  pub count : (l accounts : List ℕ) (totals : List ℤ) → PastCount accounts totals (listing_words l accounts totals)
  -- 8 "always on memory of zeros": of any length, 0 included
  pub zeros : (k : ℕ) → AllStrange (replicate k 0)

-- ---- the C functions

-- a number that a caller takes for a refusal: not 0, and below every answer's
abbrev pub RefusalNumber : ℕ → Type 0
RefusalNumber k = (k ≢ 0) × (k < answer_base)

-- turned down with the refusal's number
abbrev pub RefusedInC : {L : Type 0} → List Check → L → L × ℕ → Type 0
RefusedInC = TurnedDown number_of RefusalNumber

-- what was lent and the report afterwards, and the number
unfoldable pub left_of : Left → (List ℕ × List ℕ) × ℕ
left_of x = ((x.lent, x.report), x.number)

-- both lists and the report after a listing, and the number
unfoldable pub written_of : Written → (List ℕ × List ℤ × List ℕ) × ℕ
written_of x = ((x.accounts, x.totals, x.report), x.number)

-- every function over these words but the opening's returns 8, and all is as it was
pub record AllStrangeInC (l : List ℕ) : Type 0 where
  pub call : (w kind a : ℕ) (v : ℤ) → flat done_number (call_words l w kind a v) ≡ (l, number_of Refusal.Strange)
  pub step :
      (report : List ℕ) (w : ℕ)
      → step_left l report w ≡ record { lent = l; report = report; number = number_of Refusal.Strange }
  pub run :
      (report : List ℕ) (w most : ℕ)
      → run_left l report w most ≡ record { lent = l; report = report; number = number_of Refusal.Strange }
  pub listing :
      (accounts : List ℕ) (totals : List ℤ) (report : List ℕ)
      → list_written l accounts totals report
      ≡ record { accounts = accounts; totals = totals; report = report; number = number_of Refusal.Strange }

-- Demand 1 for the C functions: the same checks, and the report is kept too.
pub record Demand1ForC : Type 0 where
  pub needed : (n b M : ℕ) → RefusedInC (needed_checks n b M) (tt {0}) (tt, needed_number (needed_for (built n b M)))
  pub opening :
      (l : List ℕ) (n b M : ℕ) → RefusedInC (opening_checks l n b M) l (flat done_number (open_words l n b M))
  pub call :
      (l : List ℕ) (w kind a : ℕ) (v : ℤ)
      → RefusedInC (call_checks l w kind) l (flat done_number (call_words l w kind a v))
  pub step : (l report : List ℕ) (w : ℕ) → RefusedInC (step_checks l w) (l, report) (left_of (step_left l report w))
  pub run :
      (l report : List ℕ) (w most : ℕ) → RefusedInC (step_checks l w) (l, report) (left_of (run_left l report w most))
  pub listing :
      (l accounts : List ℕ) (totals : List ℤ) (report : List ℕ)
      → RefusedInC (listing_checks l accounts totals) (accounts, totals, report)
      (written_of (list_written l accounts totals report))
  pub zeros : (k : ℕ) → AllStrangeInC (replicate k 0)
