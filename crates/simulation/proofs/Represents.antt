-- The calls on words that mean a machine are answered as the machine answers them, and leave words that mean the next machine; so along
-- every list from an accepted opening. Rests on the meaning of opening, of a call, of a step and of the listing.
use Prim.Native.Nat.{ℕ, zero, suc, ◌^◌, ◌<◌}
use native.Mathlib.Omega.{arith}
use native.Mathlib.Decide.{dec_lt}
use mathlib.Core.Path.{◌≡◌, refl, ap, sym, ◌∙◌, subst}
use mathlib.Core.Bool.{Bool, true, false, ◌||◌}
use mathlib.Core.List.{List, [], ◌∷◌}
use lib.Dec.{ltb, leb}
use lib.ListN.{length}
use lib.IntN.{ℤ}
use mir.Syntax.{w64}
use mir.Val.{SFits}
use borrow.Author.Tests.{le-leb, lt-leb}
use Rattle.interface.specs.Limits.{in_range, built}
use Rattle.interface.specs.declared.Settings.{Settings}
use Rattle.interface.specs.declared.Refusal.{Refusal}
use Rattle.interface.specs.declared.Stepped.{Stepped}
use Rattle.machine.specs.Choice.{when◌then◌else◌}
use Rattle.machine.specs.Sequential.{Table, having}
use Rattle.machine.specs.Records.{Machine, new_bucket, first_cells, opened}
use Rattle.fields.specs.Regions.{words_needed, start_of, worker}
use Rattle.machine.specs.Steps.{step}
use Rattle.machine.specs.Calls.{settings, Opening, opens, refuses, opening_of, opening, call, lists, declines, listing_of, listing}
use Rattle.machine.specs.Systems.{opened_by, machines, Entry, calling, stepping, showing, reopening, to_call, to_step, to_listing, to_opening}
use Rattle.machine.specs.Systems.{reply, next, OpensNothing}
use Rattle.machine.specs.History.{entry_at, state_at, OpeningsRefused}
use Rattle.machine.proofs.laws.Base.{if_ap}
use Rattle.machine.proofs.Openings.{opening_opens, opening_leaves, opening_refused, call_stranger, step_stranger}
use Rattle.machine.proofs.invariant.Tasks.{Good, opened_good, call_good, step_good}
use Rattle.machine.proofs.moments.Explain.{Parts, serve_all}
use Rattle.machine.proofs.list.Advance.{advance}
use Rattle.machine.specs.Tasks.{tasks_of}
use Rattle.lists.specs.Parts.{overlay}
use Rattle.layout.specs.Shape.{strange, shape_of}
use Rattle.turns.specs.Turns.{step_in, step_words}
use Rattle.calls.specs.Calls.{call_in, call_words}
use Rattle.opening.specs.Opening.{fresh_words, opened_words, open_words}
use Rattle.rows.specs.Rows.{shown, rows, listing_words}
use Rattle.simulation.specs.LentWords.{Typed, AllTyped, listing_on, shown_as, lent_words}
use Rattle.simulation.specs.Demand2.{words_at, machine_at}
use Rattle.simulation.specs.Meaning.{Meaning}
use Rattle.simulation.proofs.frames.OwnWorker.{Ready}
use Rattle.simulation.proofs.CallMeans.{call_means}
use Rattle.simulation.proofs.StepMeans.{step_means}
use Rattle.simulation.proofs.OpeningMeans.{shape_is, strange_never, opened_means}
use Rattle.simulation.proofs.RowsMean.{rows_are}
use Rattle.simulation.proofs.lengths.CallLengths.{length_call, length_step, length_open}
use Rattle.std.specs.Prelude.{Result, Ok, Err, ⊤}

pub typed_at : (es : List Entry) → AllTyped es → (i : ℕ) → Typed (entry_at es i)
unfolding entry_at
typed_at [] t i = tt
typed_at (e ∷ es) t zero = t.0
typed_at (e ∷ es) t (suc i) = typed_at es t.1 i

-- ---- openings

-- what an opening leaves and answers
abbrev pub opened_as : List ℕ → Opening → List ℕ × Result ⊤ Refusal
opened_as l (opens s m) = (overlay l 0 (fresh_words s), Ok tt)
opened_as l (refuses r) = (l, Err r)

pub open_alike : (l : List ℕ) (n b M : ℕ) → open_words l n b M ≡ opened_as l (opening n b M (length l))
unfolding open_words opening opened_words opening_of
open_alike l n b M = go (built n b M)
  where
    go : (x : Result Settings Refusal) → opened_words l x ≡ opened_as l (opening_of x (length l))
    go (Err r) = refl
    go (Ok s) = sym (if_ap (opened_as l) (leb (words_needed s) (length l)) (opens s opened) (refuses Refusal.Short))

-- ---- the listing

pub shown_alike :
    (accounts : List ℕ) (totals : List ℤ) (t : Table)
    → shown accounts totals t ≡ shown_as accounts totals (listing_of t (length accounts) (length totals))
unfolding shown listing_of
shown_alike accounts totals t =
    sym (if_ap (shown_as accounts totals) (ltb (length accounts) (length t) || ltb (length totals) (length t)) (declines Refusal.Narrow)
    (lists t))

-- what the two lists become is what the listing shows, for any words
pub shown_on :
    (l accounts : List ℕ) (totals : List ℤ)
    → listing_words l accounts totals ≡ shown_as accounts totals (listing_on l (length accounts) (length totals))
unfolding listing_words listing_on when◌then◌else◌
shown_on l accounts totals = go (strange l) refl
  where
    go :
        (b : Bool) → strange l ≡ b
        → listing_words l accounts totals ≡ shown_as accounts totals (listing_on l (length accounts) (length totals))
    go true e = rw e
    go false e = rw e (shown_alike accounts totals (rows l (shape_of l)))

-- ---- one entry

opening_replies : {p q : Result ⊤ Refusal} → to_opening p ≡ to_opening q → p ≡ q
opening_replies e = cc

-- the words mean a good machine whose buckets together are a plain table
pub record Represents (s : Settings) (l : List ℕ) (m : Machine) : Type 0 where
  pub means : Meaning s l m
  pub good : Good s m
  pub table : Table
  pub parts : Parts m.cells table

module _ (s : Settings) (range : in_range s.workers s.capacity s.depth ≡ true) where
  module _ (l : List ℕ) (m : Machine) (h : Represents s l m) where
    ready : (w : ℕ) → w < s.workers → Ready s l m w
    ready w known = record { range = range; means = h.means; good = h.good; known = known }

    not_strange : strange l ≡ false
    not_strange = strange_never s range l m h.means

    shape : shape_of l ≡ s
    shape = shape_is s range l m h.means

    pub step_alike : (w : ℕ) → Meaning s (step_words l w).0 (step s m w).0 × ((step_words l w).1 ≡ (step s m w).1)
    unfolding step_words when◌then◌else◌
    step_alike w = go (dec_lt w s.workers)
      where
        go : Dec (w < s.workers) → Meaning s (step_words l w).0 (step s m w).0 × ((step_words l w).1 ≡ (step s m w).1)
        go (yes known) =
            let e : step_words l w ≡ step_in l s w = rw (not_strange, shape, lt-leb s.workers w known) in
            rw e (step_means (ready w known))
        go (no beyond) =
            let e : step_words l w ≡ (l, Stepped.Refused Refusal.Stranger) = rw (not_strange, shape, le-leb s.workers w (omega arith)) in
            rw (e, step_stranger s m w (omega arith)) (h.means, refl)

    module _ (w kind a : ℕ) (v : ℤ) (narrow : a < 2 ^ 32) (fits : SFits w64 v) where
      pub call_alike : Meaning s (call_words l w kind a v).0 (call s m w kind a v).0 × ((call_words l w kind a v).1 ≡ (call s m w kind a v).1)
      unfolding call_words start_of when◌then◌else◌
      call_alike = go (dec_lt w s.workers)
        where
          go : Dec (w < s.workers)
              → Meaning s (call_words l w kind a v).0 (call s m w kind a v).0 × ((call_words l w kind a v).1 ≡ (call s m w kind a v).1)
          go (yes known) =
              let e : call_words l w kind a v ≡ call_in l (start_of s (worker w)) kind a v =
              rw (not_strange, shape, lt-leb s.workers w known) in
              rw e (call_means (ready w known) kind a v narrow fits)
          go (no beyond) =
              let e : call_words l w kind a v ≡ (l, Err Refusal.Stranger) =
              rw (not_strange, shape, le-leb s.workers w (omega arith)) in
              rw (e, call_stranger s m w kind a v (omega arith)) (h.means, refl)

    pub listing_alike : (x y : ℕ) → listing m x y ≡ listing_on l x y
    unfolding listing_on listing when◌then◌else◌
    listing_alike x y =
        let e : listing_on l x y ≡ listing_of (rows l s) x y = rw (not_strange, shape) in
        sym (e ∙ ap (λ t. listing_of t x y) (rows_are s range l m h.means h.good h.table h.parts))

    -- the entry is answered alike
    pub alike : (e : Entry) → Typed e → reply lent_words l e ≡ reply (machines s (length l)) m e
    unfolding reply opened_by
    alike (calling w kind a v) t = ap to_call (call_alike w kind a v t.0 t.1).1
    alike (stepping w) t = ap to_step (step_alike w).1
    alike (showing x y) t = ap to_listing (sym (listing_alike x y))
    alike (reopening n b M) t = ap to_opening (ap (λ r. r.1) (open_alike l n b M) ∙ opened_alike (opening n b M (length l)))
      where
        opened_alike : (o : Opening) → (opened_as l o).1 ≡ (opened_by m o).1
        opened_alike (opens k f) = refl
        opened_alike (refuses r) = refl

    -- a refused opening leaves the words and the machine
    words_kept : (n b M : ℕ) → OpensNothing lent_words l (reopening n b M) → (open_words l n b M).0 ≡ l
    words_kept n b M h =
        ap (λ r. r.0) (open_alike l n b M) ∙ go (opening n b M (length l)) (ap (λ r. r.1) (sym (open_alike l n b M)) ∙ h.1)
      where
        go : (o : Opening) {r : Refusal} → (opened_as l o).1 ≡ Err r → (opened_as l o).0 ≡ l
        go (opens k f) e = absurd (let z : ◌≡◌ {A = ℕ} 0 1 = cc in omega arith)
        go (refuses r) e = refl

    -- an opening that the words refuse, the machine refuses
    refused_alike : (e : Entry) → OpensNothing lent_words l e → OpensNothing (machines s (length l)) m e
    unfolding reply
    refused_alike (calling w kind a v) h = tt
    refused_alike (stepping w) h = tt
    refused_alike (showing x y) h = tt
    refused_alike (reopening n b M) h = (h.0, opening_replies (sym (alike (reopening n b M) tt)) ∙ h.1)

    means_next : (e : Entry) → Typed e → OpensNothing lent_words l e → Meaning s (next lent_words l e) (next (machines s (length l)) m e)
    unfolding next
    means_next (calling w kind a v) t r = (call_alike w kind a v t.0 t.1).0
    means_next (stepping w) t r = (step_alike w).0
    means_next (showing x y) t r = h.means
    means_next (reopening n b M) t r =
        rw (words_kept n b M r, opening_refused m (opening n b M (length l)) (refused_alike (reopening n b M) r).1) h.means

    good_next : (e : Entry) → OpensNothing lent_words l e → Good s (next (machines s (length l)) m e)
    unfolding next
    good_next (calling w kind a v) r = call_good s range m w kind a v h.good
    good_next (stepping w) r = step_good s range m w h.good
    good_next (showing x y) r = h.good
    good_next (reopening n b M) r =
        rw (opening_refused m (opening n b M (length l)) (refused_alike (reopening n b M) r).1) h.good

    -- and the words go on to mean the machine
    pub represents_next :
        (e : Entry) → Typed e → OpensNothing lent_words l e → Represents s (next lent_words l e) (next (machines s (length l)) m e)
    represents_next e t r =
        let x = (advance s range (length l) m h.table h.good h.parts e (refused_alike e r)).explained in
        record {
          means = means_next e t r;
          good = good_next e r;
          table = serve_all s (tasks_of s m) h.table x.effects;
          parts = x.parts;
        }

  -- as many words as before
  length_next : (l : List ℕ) (e : Entry) → length (next lent_words l e) ≡ length l
  unfolding next
  length_next l (calling w kind a v) = length_call l w kind a v
  length_next l (stepping w) = length_step l w
  length_next l (showing x y) = refl
  length_next l (reopening n b M) = length_open l n b M

  -- ---- a list of entries, from words that mean an opened machine

  module _ (l : List ℕ) (es : List Entry) (start : Represents s l opened) (typed : AllTyped es)
      (refused : OpeningsRefused s lent_words l [] es) where
    length_at : (i : ℕ) → length (words_at s l es i) ≡ length l
    unfolding state_at
    length_at zero = refl
    length_at (suc i) = length_next (words_at s l es i) (entry_at es i) ∙ length_at i

    -- at every index the words mean a good machine
    pub represents_at : (i : ℕ) → Represents s (words_at s l es i) (machine_at s l es i)
    unfolding state_at
    represents_at zero = start
    represents_at (suc i) =
        subst (λ (k : ℕ). Represents s (words_at s l es (suc i)) (next (machines s k) (machine_at s l es i) (entry_at es i))) (length_at i)
        (represents_next (words_at s l es i) (machine_at s l es i) (represents_at i) (entry_at es i) (typed_at es typed i) (refused i))

    -- and an entry is answered alike
    pub alike_at :
        (i : ℕ) (e : Entry) → Typed e → reply lent_words (words_at s l es i) e ≡ reply (machines s (length l)) (machine_at s l es i) e
    alike_at i e t =
        subst (λ (k : ℕ). reply lent_words (words_at s l es i) e ≡ reply (machines s k) (machine_at s l es i) e) (length_at i)
        (alike (words_at s l es i) (machine_at s l es i) (represents_at i) e t)

    -- and every opening refused
    pub refused_at : OpeningsRefused s (machines s (length l)) opened [] es
    refused_at i =
        subst (λ (k : ℕ). OpensNothing (machines s k) (machine_at s l es i) (entry_at es i)) (length_at i)
        (refused_alike (words_at s l es i) (machine_at s l es i) (represents_at i) (entry_at es i) (refused i))

-- ---- an accepted opening

-- what an accepted opening is: its settings are in range, its words mean an opened machine
pub record Start (l : List ℕ) (n b M : ℕ) : Type 0 where
  pub range : in_range n b M ≡ true
  pub represents : Represents (settings n b M) (open_words l n b M).0 opened
  pub opens : opening n b M (length (open_words l n b M).0) ≡ opens (settings n b M) opened

pub started : (l : List ℕ) (n b M : ℕ) → (open_words l n b M).1 ≡ Ok tt → Start l n b M
unfolding opened first_cells new_bucket having
started l n b M e = go (opening n b M (length l)) refl
  where
    go : (o : Opening) → opening n b M (length l) ≡ o → Start l n b M
    go (refuses r) q =
        let w : (open_words l n b M).1 ≡ Err r = ap (λ r. r.1) (open_alike l n b M ∙ ap (opened_as l) q) in
        absurd (let z : ◌≡◌ {A = ℕ} 0 1 = cc in omega arith)
    go (opens s m) q =
        let r = opening_leaves n b M (length l) q in
        let f = opening_opens n b M (length l) r.range r.enough in
        let w : (open_words l n b M).0 ≡ overlay l 0 (fresh_words (settings n b M)) =
        ap (λ r. r.0) (open_alike l n b M ∙ ap (opened_as l) f) in
        record {
          range = r.range;
          represents = rw w (record {
            means = opened_means (settings n b M) r.range l r.enough;
            good = opened_good (settings n b M) r.range;
            table = [];
            parts = record { ascending = tt; part = λ a. refl };
          });
          opens = ap (λ (k : ℕ). opening n b M k) (length_open l n b M) ∙ f;
        }
