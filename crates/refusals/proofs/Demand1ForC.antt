-- Demand 1 for the C functions: each returns a refusal's number where the call that it stands for is refused, and only there.
-- Rests on demand 1 for the library's calls.
use Prim.Native.Nat.{ℕ}
use native.Mathlib.Omega.{arith}
use mathlib.Core.Path.{◌≡◌, refl, ap, ◌∙◌}
use mathlib.Core.List.{List}
use lib.ListN.{replicate}
use Rattle.interface.specs.Limits.{built}
use Rattle.interface.specs.Numbers.{number_of}
use Rattle.interface.specs.declared.Settings.{Settings}
use Rattle.interface.specs.declared.Refusal.{Refusal}
use Rattle.interface.specs.declared.Stepped.{Stepped}
use Rattle.interface.specs.declared.Ran.{Ran}
use Rattle.fields.specs.Regions.{directory_start, record_start, words_needed}
use Rattle.opening.specs.Opening.{needed_for}
use Rattle.report.specs.Report.{ended_number}
use Rattle.numbers.specs.Returned.{needed_number, done_number, stepped_number, ran_number, counted_number, stepped_report, ran_report, counted_report}
use Rattle.capi.specs.Flat.{flat, reported, written}
use Rattle.refusals.specs.Checks.{Check}
use Rattle.refusals.specs.Demand1.{RefusedBy, RefusalNumber, RefusedInC, lists_of, left_of, written_of, AllStrange, AllStrangeInC, Demand1ForC}
use Rattle.refusals.proofs.Demand1.{demand1}
use Rattle.std.specs.Prelude.{Result, Ok, Err, ⊤}

-- a function that returns the number of a call's answer, and leaves all as it was where the call is refused
pub in_c :
    {L K A : Type 0} {refused : Refusal → A} {checks : List Check} {lent : L} {x : L × A} {before after : K} (number : A → ℕ)
    → ((r : Refusal) → number (refused r) ≡ number_of r)
    → (RefusalNumber (number x.1) → (r : Refusal) × (x.1 ≡ refused r))
    → ((r : Refusal) → x.1 ≡ refused r → x.0 ≡ lent → after ≡ before)
    → RefusedBy refused checks lent x → RefusedInC checks before (after, number x.1)
in_c number same known leaves h =
    record {
      bad = λ r e. ap number (h.bad r e) ∙ same r;
      other = λ e k. h.other e (known k);
      kept = λ k. let a = known k in leaves a.0 a.1 (h.kept a);
    }

-- ---- a number that a caller takes for a refusal is one's

needed_known : (b : Result Settings Refusal) → RefusalNumber (needed_number (needed_for b)) → (r : Refusal) × (needed_for b ≡ Err r)
unfolding needed_number needed_for words_needed record_start directory_start
needed_known (Ok s) k = absurd (let h = k.1 in omega arith)
needed_known (Err r) k = (r, refl)

done_known : (a : Result ⊤ Refusal) → RefusalNumber (done_number a) → (r : Refusal) × (a ≡ Err r)
unfolding done_number
done_known (Ok _) k = absurd (k.0 refl)
done_known (Err r) k = (r, refl)

stepped_known : (a : Stepped) → RefusalNumber (stepped_number a) → (r : Refusal) × (a ≡ Stepped.Refused r)
unfolding stepped_number ended_number
stepped_known Stepped.Moved k = absurd (k.0 refl)
stepped_known (Stepped.Answered c) k = absurd (let h = k.1 in omega arith)
stepped_known (Stepped.Refused r) k = (r, refl)

ran_known : (a : Result Ran Refusal) → RefusalNumber (ran_number a) → (r : Refusal) × (a ≡ Err r)
unfolding ran_number ended_number
ran_known (Ok (Ran.Moved j)) k = absurd (k.0 refl)
ran_known (Ok (Ran.Answered c)) k = absurd (let h = k.1 in omega arith)
ran_known (Err r) k = (r, refl)

pub listed_known : (a : Result ℕ Refusal) → RefusalNumber (counted_number a) → (r : Refusal) × (a ≡ Err r)
unfolding counted_number
listed_known (Ok j) k = absurd (k.0 refl)
listed_known (Err r) k = (r, refl)

-- ---- the functions

strange_in_c : (l : List ℕ) → AllStrange l → AllStrangeInC l
unfolding flat reported written done_number stepped_number ran_number counted_number stepped_report ran_report counted_report
strange_in_c l h =
    record {
      call = λ w kind a v. rw (h.call w kind a v);
      step = λ report w. rw (h.step w);
      run = λ report w most. rw (h.run w most);
      listing = λ accounts totals report. rw (h.listing accounts totals);
    }

-- Demand 1 for the C functions.
pub demand1_for_c : Demand1ForC
unfolding
    flat reported written left_of written_of lists_of needed_number done_number stepped_number ran_number counted_number
    stepped_report ran_report counted_report
demand1_for_c =
    record {
      needed = λ n b M. in_c needed_number (λ r. refl) (needed_known (built n b M)) (λ r e h. h) (demand1.needed n b M);
      opening = λ l n b M. in_c done_number (λ r. refl) (done_known _) (λ r e h. h) (demand1.opening l n b M);
      call = λ l w kind a v. in_c done_number (λ r. refl) (done_known _) (λ r e h. h) (demand1.call l w kind a v);
      step = λ l report w. in_c stepped_number (λ r. refl) (stepped_known _) (λ r e h. rw (e, h)) (demand1.step l w);
      run = λ l report w most. in_c ran_number (λ r. refl) (ran_known _) (λ r e h. rw (e, h)) (demand1.run l w most);
      listing = λ l accounts totals report.
          in_c counted_number (λ r. refl) (listed_known _) (λ r e h i. ((h i).0, (h i).1, counted_report report (e i)))
          (demand1.listing l accounts totals);
      zeros = λ k. strange_in_c (replicate k 0) (demand1.zeros k);
    }
