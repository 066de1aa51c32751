-- More than 12 operations are refused, whatever they are; and so the text for the first 13 is the text for all. Rests on crate logs'
-- judgements.
use Prim.Native.Nat.{ℕ, ◌/◌, ◌≤◌, ◌<◌}
use mathlib.Core.Path.{◌≡◌, refl, sym, ◌∙◌, ap}
use mathlib.Core.Bool.{Bool, true, false, not}
use mathlib.Core.List.{List, []}
use Rattle.std.specs.Prelude.{Some, Ok, Err}
use native.Mathlib.Omega.{arith}
use lib.Dec.{leb}
use lib.ListN.{length, take, replicate}
use lib.Seq.{length-take-le, take_all}
use borrow.Author.Tests.{leb-true, leb-false}
use Rattle.interface.specs.Limits.{least_workers, in_range}
use Rattle.interface.specs.declared.Refusal.{Refusal}
use Rattle.interface.specs.declared.Verdict.{Verdict}
use Rattle.interface.specs.declared.Refusal.TheVariants.{Settings, BadLog}
use Rattle.machine.specs.Choice.{when◌then◌else◌}
use Rattle.machine.proofs.laws.Base.{if_ap}
use Rattle.logs.specs.Log.{operation_words, greatest_operations, count_of}
use Rattle.logs.specs.Judging.{refusal, check_log_words}
use Rattle.logs.proofs.Judgements.{few, no_log, passes, refused, all_judged}
use Rattle.loglines.specs.Inputs.{log, judged_text, input_text}
use Rattle.loglines.specs.Texts.{verdict_text}
use Rattle.loglines.specs.Holding.{kept_words}

pub count_taken : (l : List ℕ) (n : ℕ) → n ≤ length l → count_of (take n l) ≡ n / operation_words
unfolding count_of
count_taken l n h = rw (length-take-le n l h)

-- ---- more than 12

-- what more than 12 are refused by: the settings, where they are out of range, or bad log
abbrev many_refusal : ℕ → ℕ → Refusal
many_refusal b M = when not (in_range least_workers b M) then Settings else BadLog

many_refused : (l : List ℕ) (b M places : ℕ) → greatest_operations < count_of l → refusal l b M places ≡ Some (many_refusal b M)
unfolding refusal when◌then◌else◌
many_refused l b M places h = rw (no_log l h) (sym (if_ap Some (not (in_range least_workers b M)) Settings BadLog))

-- an accepted log has no more than 12
pub accepted_few :
    (l : List ℕ) (b M : ℕ) (before order : List ℕ) → (order, Ok Verdict.Accepted) ≡ check_log_words l b M before → count_of l ≤ greatest_operations
accepted_few l b M before order e = few l (passes l b M (length before) (all_judged.judged l b M before order (Ok Verdict.Accepted) e).0).0

-- ---- the first 13 for all

many_text : (l : List ℕ) (b M : ℕ) → greatest_operations < count_of l → input_text (log b M l) ≡ verdict_text (Err (many_refusal b M)) []
unfolding input_text judged_text verdict_text
many_text l b M h =
    ap (judged_text (count_of l)) (refused l b M (replicate greatest_operations 0) (many_refusal b M) (many_refused l b M _ h))

-- 104 words are 13 operations
module _ (ws : List ℕ) (h : kept_words < length ws) where
  many_taken : greatest_operations < count_of (take kept_words ws)
  many_taken = rw (count_taken ws kept_words (omega arith)) (omega arith)

  many_all : greatest_operations < count_of ws
  unfolding count_of
  many_all = omega arith

pub text_kept : (ws : List ℕ) (b M : ℕ) → input_text (log b M (take kept_words ws)) ≡ input_text (log b M ws)
text_kept ws b M = by (leb (length ws) kept_words) refl
  where
    by : (t : Bool) → leb (length ws) kept_words ≡ t → input_text (log b M (take kept_words ws)) ≡ input_text (log b M ws)
    by true e = ap (λ (l : List ℕ). input_text (log b M l)) (take_all kept_words ws (leb-true (length ws) kept_words e))
    by false e =
        let h = leb-false (length ws) kept_words e in
        many_text (take kept_words ws) b M (many_taken ws h) ∙ sym (many_text ws b M (many_all ws h))
