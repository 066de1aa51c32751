-- Demand 2: along every list from an accepted opening the words mean the machine, and reply as it does. Rests on one entry's meaning and
-- on a run as its steps.
use Prim.Native.Nat.{ℕ}
use mathlib.Core.Path.{◌≡◌, refl, ap, sym, ◌∙◌}
use mathlib.Core.Bool.{Bool, true, false, ◌||◌}
use Rattle.std.specs.Prelude.{Option, Some, None, Result, ⊤}
use lib.Dec.{leb, ltb}
use lib.ListN.{length}
use lib.IntN.{ℤ}
use borrow.Author.Tests.{leb-true, leb-false}
use Rattle.interface.specs.Limits.{in_range}
use Rattle.interface.specs.declared.Settings.{Settings}
use Rattle.interface.specs.declared.Answer.{Answer}
use Rattle.interface.specs.declared.Refusal.{Refusal}
use Rattle.interface.specs.declared.Stepped.{Stepped}
use Rattle.fields.specs.Regions.{words_needed}
use Rattle.machine.specs.Sequential.{Table, Operation}
use Rattle.machine.specs.Records.{Machine}
use Rattle.machine.specs.Steps.{access, perform, step_reply, done, step_of, step}
use Rattle.machine.specs.Calls.{settings, opening, operation_of, spent, call_of, call, Listing}
use Rattle.machine.specs.Calls.{contents, listing_of, listing}
use Rattle.machine.specs.Systems.{opened_by, machines, Entry, calling, stepping, showing, reopening, to_call, to_listing}
use Rattle.machine.specs.Systems.{to_opening, reply}
use Rattle.machine.specs.History.{refusal_in}
use Rattle.machine.proofs.laws.Base.{no_both, if_elim}
use Rattle.machine.proofs.Openings.{opening_settings, opening_short, opening_opens}
use Rattle.opening.specs.Opening.{open_words}
use Rattle.simulation.specs.LentWords.{shown_as}
use Rattle.simulation.specs.Demand2.{refusal_of, Demand2}
use Rattle.simulation.proofs.Represents.{shown_on, listing_alike, represents_at, alike_at, started}
use Rattle.simulation.proofs.runs.RunIterates.{run_iterates}

-- ---- 8 is a matter of the memory: the machine never gives it

abbrev is_strange : Option Refusal → Bool
is_strange None = false
is_strange (Some Refusal.Settings) = false
is_strange (Some Refusal.Short) = false
is_strange (Some Refusal.Stranger) = false
is_strange (Some Refusal.Busy) = false
is_strange (Some Refusal.Idle) = false
is_strange (Some Refusal.Kind) = false
is_strange (Some Refusal.Spent) = false
is_strange (Some Refusal.Strange) = true
is_strange (Some Refusal.Narrow) = false
is_strange (Some Refusal.BadLog) = false

module _ (s : Settings) (m : Machine) where
  call_recognised : (j kind a : ℕ) (v : ℤ) → is_strange (refusal_of (to_call (call s m j kind a v).1)) ≡ false
  unfolding call call_of refusal_of
  call_recognised j kind a v =
      if_elim Told (ltb j s.workers) _ _ (λ _. by (m.workers j).operation (operation_of kind a v)) (λ _. refl)
    where
      Told : Machine × Result ⊤ Refusal → Type 0
      Told x = is_strange (refusal_of (to_call x.1)) ≡ false

      by : (o p : Option Operation) → Told (call_of m j o p)
      by (Some o) p = refl
      by None None = refl
      by None (Some p) = if_elim Told (spent (m.workers j) p) _ _ (λ _. refl) (λ _. refl)

  step_recognised : (j : ℕ) → is_strange (refusal_in (step s m j).1) ≡ false
  unfolding step step_of refusal_in done step_reply
  step_recognised j = if_elim Told (ltb j s.workers) _ _ (λ _. by (m.workers j).operation) (λ _. refl)
    where
      Told : Machine × Stepped → Type 0
      Told x = is_strange (refusal_in x.1) ≡ false

      replied : (k c : ℕ) (a : Option Answer) → is_strange (refusal_in (step_reply k c a)) ≡ false
      replied k c None = refl
      replied k c (Some a) = refl

      by : (o : Option Operation) → Told (step_of s m j o)
      by None = refl
      by (Some o) = replied _ _ (perform (access s j (m.workers j) o) m.cells).answer

  listing_recognised : (t : Table) (x y : ℕ) → is_strange (refusal_of (to_listing (listing_of t x y))) ≡ false
  unfolding listing_of refusal_of
  listing_recognised t x y =
      if_elim (λ (l : Listing). is_strange (refusal_of (to_listing l)) ≡ false) (ltb x (length t) || ltb y (length t)) _ _ (λ _. refl)
      (λ _. refl)

  opening_recognised : (n b M lent : ℕ) → is_strange (refusal_of (to_opening (opened_by m (opening n b M lent)).1)) ≡ false
  unfolding opened_by refusal_of
  opening_recognised n b M lent = by (in_range n b M) refl (leb (words_needed (settings n b M)) lent) refl
    where
      by : (r : Bool) → in_range n b M ≡ r → (w : Bool) → leb (words_needed (settings n b M)) lent ≡ w
          → is_strange (refusal_of (to_opening (opened_by m (opening n b M lent)).1)) ≡ false
      by true e true f = rw (opening_opens n b M lent e (leb-true _ _ f)) refl
      by true e false f = rw (opening_short n b M lent e (leb-false _ _ f)) refl
      by false e w f = rw (opening_settings n b M lent e) refl

  recognised : (lent : ℕ) (e : Entry) → is_strange (refusal_of (reply (machines s lent) m e)) ≡ false
  unfolding reply refusal_of listing
  recognised lent (calling j kind a v) = call_recognised j kind a v
  recognised lent (stepping j) = step_recognised j
  recognised lent (showing x y) = listing_recognised (contents m) x y
  recognised lent (reopening n b M) = opening_recognised n b M lent

-- ---- the theorem

pub demand2 : Demand2
demand2 l n b M es f =
    let g = started l n b M f.accepted in
    let r = represents_at (settings n b M) g.range (open_words l n b M).0 es g.represents f.typed f.refused in
    let replies = alike_at (settings n b M) g.range (open_words l n b M).0 es g.represents f.typed f.refused in
    record {
      means = λ i h. (r i).means;
      replies = λ i e h t. replies i e t;
      recognised = λ i e h t q.
          no_both (ap is_strange (ap refusal_of (sym (replies i e t)) ∙ q)) (recognised (settings n b M) _ _ e);
      listings = λ i accounts totals h.
          shown_on _ accounts totals
          ∙ ap (shown_as accounts totals) (sym (listing_alike (settings n b M) g.range _ _ (r i) (length accounts) (length totals)));
      runs = λ i w most h. run_iterates (settings n b M) g.range _ _ (r i) w most;
    }
