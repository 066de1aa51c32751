-- A log of answered operations, the field's complete history, and when words are one. 02, No. 9: "up to 12 answered
-- operations, each with worker, kind 1 to 4, account, total, answer with its total, call position and answer position".
-- Rests on document 01's numbers.
use Rattle.std.specs.Prelude.{ℕ, zero, suc, ◌+◌, ◌*◌, ◌/◌, ◌%◌, ◌^◌, Bool, true, false, not, List, eqb, leb, ltb, ℤ, length, get_or}
use Rattle.std.specs.Int.{w64}
use Rattle.std.proofs.Common.{to_z}
use Rattle.interface.specs.Numbers.{kind_insert, greatest_kind}
use Rattle.machine.specs.Choice.{when◌then◌else◌, ◌and◌}

-- ---- logs

-- the answer by the number of totals_step, 17 and on; positions are compared only
pub record Logged : Type 0 where
  pub worker : ℕ
  pub kind : ℕ
  pub account : ℕ
  pub total : ℤ
  pub answer : ℕ
  pub answer_total : ℤ
  pub call : ℕ
  pub end : ℕ

-- so many operations, each at its place, counted from 0
pub record Log : Type 0 where
  pub count : ℕ
  pub at : ℕ → Logged

-- ---- logs in words

-- the words of an operation, and where each field stands among them
abbrev pub operation_words : ℕ
operation_words = 8

abbrev pub logged_worker : ℕ
logged_worker = 0

abbrev pub logged_kind : ℕ
logged_kind = 1

abbrev pub logged_account : ℕ
logged_account = 2

abbrev pub logged_total : ℕ
logged_total = 3

abbrev pub logged_answer : ℕ
logged_answer = 4

abbrev pub logged_answer_total : ℕ
logged_answer_total = 5

abbrev pub logged_call : ℕ
logged_call = 6

abbrev pub logged_end : ℕ
logged_end = 7

-- the word of the operation at place i that stands k past its first
unfoldable pub word_at : List ℕ → ℕ → ℕ → ℕ
word_at l i k = get_or l (i * operation_words + k) 0

-- no position is greater
abbrev pub greatest_word : ℕ
greatest_word = 18_446_744_073_709_551_615

-- totals are words of two's complement
unfoldable pub logged_at : List ℕ → ℕ → Logged
logged_at l i =
    record {
      worker = word_at l i logged_worker;
      kind = word_at l i logged_kind;
      account = word_at l i logged_account;
      total = to_z w64 (word_at l i logged_total);
      answer = word_at l i logged_answer;
      answer_total = to_z w64 (word_at l i logged_answer_total);
      call = word_at l i logged_call;
      end = word_at l i logged_end;
    }

unfoldable pub count_of : List ℕ → ℕ
count_of l = length l / operation_words

unfoldable pub log_of : List ℕ → Log
log_of l = record { count = count_of l; at = logged_at l }

-- ---- good logs

-- the test passes for every number below n
unfoldable pub all : ℕ → (ℕ → Bool) → Bool
all zero test = true
all (suc n) test = all n test and test n

-- "up to 12"
abbrev pub greatest_operations : ℕ
greatest_operations = 12

-- "14 .. if .. an answer is not after its call, .. or a kind is none of these four"; an account has 32 bits
unfoldable pub is_operation : Logged → Bool
is_operation x =
    leb kind_insert x.kind and leb x.kind greatest_kind and ltb x.account (2 ^ 32) and ltb x.call x.end

-- the four positions of two operations differ; "14 .. if .. positions repeat"
unfoldable pub apart : Logged → Logged → Bool
apart x y =
    not (eqb x.call y.call) and not (eqb x.call y.end) and not (eqb x.end y.call)
    and not (eqb x.end y.end)

-- x was answered before y's call: the order in real time
unfoldable pub precedes : Logged → Logged → Bool
precedes x y = ltb x.end y.call

-- not "one worker's operations overlap"
unfoldable pub in_turn : Logged → Logged → Bool
in_turn x y = when eqb x.worker y.worker then (when precedes x y then true else precedes y x) else true

-- each operation is one, and is apart from those of lower places, and in turn with them
unfoldable pub is_log : Log → Bool
is_log log =
    leb log.count greatest_operations and all log.count (λ i. is_operation (log.at i))
    and all log.count (λ i. all i (λ j. apart (log.at j) (log.at i) and in_turn (log.at j) (log.at i)))

-- words make whole operations, and these a log; else "14, bad log"
unfoldable pub are_log : List ℕ → Bool
are_log l = eqb (length l % operation_words) 0 and is_log (log_of l)
