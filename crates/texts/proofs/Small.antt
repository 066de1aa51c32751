-- Every reply's numbers are of 64 bits, and so are the rows of a listing, for any words. Rests on the table's calls.
use Prim.Native.Nat.{ℕ, zero, suc, ◌+◌, ◌^◌, ◌≤◌, ◌<◌}
use mathlib.Core.List.{List}
use Rattle.std.specs.Prelude.{Option, Result, Ok, Err, ⊤, None, Some}
use native.Mathlib.Nat.{mod-lt}
use native.Mathlib.Omega.{arith}
use lib.Dec.{eqb}
use Rattle.interface.specs.Numbers.{number_of, answer_number}
use Rattle.interface.specs.declared.Settings.{Settings}
use Rattle.interface.specs.declared.Answer.{Answer}
use Rattle.interface.specs.declared.Answer.TheVariants.{Added, Replaced, Removed, Absent, Crowded, Overrun}
use Rattle.interface.specs.declared.Refusal.{Refusal}
use Rattle.interface.specs.declared.Stepped.{Stepped}
use Rattle.interface.specs.declared.Ran.{Ran}
use Rattle.fields.specs.Fields.{steps_range, totals_from}
use Rattle.machine.specs.Plan.{Phase, announce, read_directory, flip_toggle, read_state, read_toggle, swap_state, check_state, copy_directory, swap_directory, read_slot, resize_for}
use Rattle.machine.proofs.laws.Base.{if_elim}
use Rattle.arrays.specs.declared.Position.{Position}
use Rattle.arrays.specs.declared.Position.TheVariants.{At, Before}
use Rattle.rules.specs.Rules.{posted_number, answer_of}
use Rattle.memory.specs.Words.{least}
use Rattle.memory.proofs.Lesser.{least_bound}
use Rattle.layout.specs.Shape.{word}
use Rattle.calls.specs.Calls.{ended_at}
use Rattle.updates.specs.Updates.{checked_at, check_at, update_at, operation_at}
use Rattle.lookups.specs.Lookups.{found_at, looked_at, lookup_at}
use Rattle.runs.specs.Runs.{last_of, or_else, run_in, longest_run, run_words}
use Rattle.rows.proofs.SmallRows.{small_total}
use Rattle.commands.specs.declared.Command.{Command}
use Rattle.replies.specs.declared.Reply.{Reply}
use Rattle.responses.specs.Responses.{of_done, of_ran, replying, responded}
use Rattle.texts.proofs.Lengths.{small_answer, small_reply}

-- ---- numbers of refusals

small_number : (r : Refusal) → number_of r < 2 ^ 64
small_number Refusal.Settings = omega arith
small_number Refusal.Short = omega arith
small_number Refusal.Stranger = omega arith
small_number Refusal.Busy = omega arith
small_number Refusal.Idle = omega arith
small_number Refusal.Kind = omega arith
small_number Refusal.Spent = omega arith
small_number Refusal.Strange = omega arith
small_number Refusal.Narrow = omega arith
small_number Refusal.BadLog = omega arith

-- ---- a step

small_stepped : Stepped → Type 0
small_stepped Stepped.Moved = Unit {0}
small_stepped (Stepped.Answered c) = (c.steps < 2 ^ 64) × small_answer c.answer
small_stepped (Stepped.Refused r) = Unit {0}

small_stored : (x total : ℕ) → small_answer (answer_of x total)
unfolding answer_of small_answer
small_stored x total =
    if_elim small_answer (eqb x (answer_number Added)) _ _ (λ e. tt)
    (λ e.
    if_elim small_answer (eqb x (answer_number Replaced)) _ _ (λ e. tt)
    (λ e.
    if_elim small_answer (eqb x (answer_number Removed)) _ _ (λ e. tt)
    (λ e.
    if_elim small_answer (eqb x (answer_number Absent)) _ _ (λ e. tt)
    (λ e.
    if_elim small_answer (eqb x posted_number) _ _ (λ e. small_total total)
    (λ e.
    if_elim small_answer (eqb x (answer_number Crowded)) _ _ (λ e. tt)
    (λ e. if_elim small_answer (eqb x (answer_number Overrun)) _ _ (λ e. tt) (λ e. tt)))))))

small_found : (l : List ℕ) (s : Settings) (q : ℕ) (p : Position) → small_answer (found_at l s q p)
unfolding found_at small_answer
small_found l s q (At i) = small_total (word l (totals_from q s.capacity + i))
small_found l s q (Before i) = tt

small_ended : (l : List ℕ) (p k c : ℕ) (a : Answer) → k < steps_range → small_answer a → small_stepped (ended_at l p k c a).1
unfolding ended_at small_stepped
small_ended l p k c a h s = (omega arith, s)

small_checked : (l : List ℕ) (s : Settings) (p q w k c : ℕ) → k < steps_range → small_stepped (check_at l p k c (checked_at l s p q w)).1
unfolding check_at checked_at small_stepped small_answer
small_checked l s p q w k c h =
    if_elim (λ (o : Option Answer). small_stepped (check_at l p k c o).1) _ _ _ (λ e. small_ended l p k c _ h (small_stored _ _))
    (λ e. tt)

small_update : (l : List ℕ) (s : Settings) (p w k : ℕ) (g : Phase) → k < steps_range → small_stepped (update_at l s p w k g).1
unfolding update_at small_stepped
small_update l s p w k announce h = tt
small_update l s p w k read_directory h = tt
small_update l s p w k flip_toggle h = tt
small_update l s p w k read_state h = tt
small_update l s p w k read_toggle h = tt
small_update l s p w k (read_slot j) h = tt
small_update l s p w k swap_state h = tt
small_update l s p w k check_state h = small_checked l s p _ w k _ h
small_update l s p w k copy_directory h = tt
small_update l s p w k (resize_for j) h = tt
small_update l s p w k swap_directory h = tt

small_lookup : (l : List ℕ) (s : Settings) (p k : ℕ) → k < steps_range → small_stepped (lookup_at l s p k).1
unfolding lookup_at looked_at small_stepped
small_lookup l s p zero h = tt
small_lookup l s p (suc k) h = small_ended l p (suc k) _ _ h (small_found l s _ _)

small_operation : (l : List ℕ) (s : Settings) (p w k : ℕ) → k < steps_range → small_stepped (operation_at l s p w k).1
unfolding operation_at
small_operation l s p w k h =
    if_elim (λ (x : List ℕ × Stepped). small_stepped x.1) _ _ _ (λ e. small_lookup _ s p k h) (λ e. small_update _ s p w k _ h)

-- ---- a run

small_last : (l : List ℕ) (k : ℕ) (x : Stepped) (later : List ℕ × Result Ran Refusal) → k < 2 ^ 64 → small_stepped x → small_reply (of_ran later.1)
    → small_reply (of_ran (or_else l (last_of k x) later).1)
unfolding or_else last_of of_ran small_stepped small_reply
small_last l k Stepped.Moved later h s r = r
small_last l k (Stepped.Answered c) later h s r = s
small_last l k (Stepped.Refused x) later h s r = h

small_run : (s : Settings) (w f : ℕ) (l : List ℕ) (k : ℕ) → k + f < 2 ^ 64 → small_reply (of_ran (run_in l s w k f).1)
unfolding run_in of_ran small_reply
small_run s w zero l k h = omega arith
small_run s w (suc f) l k h =
    if_elim (λ (x : List ℕ × Result Ran Refusal). small_reply (of_ran x.1)) _ _ _ (λ e. omega arith)
    (λ e. small_last _ k _ _ (omega arith) (small_operation l s _ w _ (mod-lt _ (omega arith))) (small_run s w f _ (suc k) (omega arith)))

least_within : (most : ℕ) → least most longest_run ≤ longest_run
least_within most = least_bound most longest_run

small_ran : (l : List ℕ) (w most : ℕ) → small_reply (of_ran (run_words l w most).1)
unfolding run_words of_ran small_reply
small_ran l w most =
    if_elim small _ _ _ (λ e. small_number Refusal.Strange)
    (λ e.
    if_elim small _ _ _ (λ e. small_number Refusal.Stranger)
    (λ e. if_elim small _ _ _ (λ e. small_number Refusal.Idle) (λ e. small_run _ w _ l 0 (omega (arith, least_within most)))))
  where
    small : List ℕ × Result Ran Refusal → Type 0
    small x = small_reply (of_ran x.1)

-- ---- commands

small_opened : (o : Result ⊤ Refusal) → small_reply (of_done o)
unfolding of_done small_reply
small_opened (Ok _) = tt
small_opened (Err r) = small_number r

small_called : (a : Result ⊤ Refusal) → small_reply (of_done a)
unfolding of_done small_reply
small_called (Ok _) = tt
small_called (Err r) = small_number r

pub small_refused : (r : Refusal) → small_reply (Reply.Refused (number_of r))
unfolding small_reply
small_refused r = small_number r

pub small_unread : small_reply Reply.Unread
unfolding small_reply
small_unread = tt

pub small_response : (l : List ℕ) (c : Option Command) → small_reply (responded l c).1
unfolding responded replying small_reply
small_response l None = small_unread
small_response l (Some (Command.Open n b M)) = small_opened _
small_response l (Some (Command.Insert w a t)) = small_called _
small_response l (Some (Command.Delete w a)) = small_called _
small_response l (Some (Command.Lookup w a)) = small_called _
small_response l (Some (Command.Post w a v)) = small_called _
small_response l (Some (Command.Steps w k)) = small_ran l w k
small_response l (Some Command.List) = tt
