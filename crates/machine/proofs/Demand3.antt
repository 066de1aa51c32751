-- Demand 3: every list of entries, from a machine whose workers are idle, is linearizable within its step bounds. The choice of moments:
-- at each index the operations that take effect there, named by their calls. Rests on the advance of one entry and on a worker's calls.
use Prim.Native.Nat.{ℕ, zero, suc, ◌≤◌, ◌<◌}
use native.Mathlib.Omega.{arith}
use native.Mathlib.Decide.{ℕ_discrete}
use mathlib.Core.Path.{◌≡◌, refl, sym, ap, ◌∙◌, subst}
use mathlib.Core.Logic.{inl, inr}
use mathlib.Core.Bool.{true, false}
use mathlib.Core.List.{List, [], ◌∷◌, map}
use Rattle.std.specs.Prelude.{Option, Some, None}
use lib.ListN.{length}
use borrow.Author.Tests.{eq-eqb, eqb-true}
use Rattle.interface.specs.Limits.{in_range, Range}
use Rattle.interface.proofs.Laws.{range_of}
use Rattle.interface.specs.declared.Settings.{Settings}
use Rattle.interface.specs.declared.Answer.{Answer}
use Rattle.interface.specs.declared.Completion.{Completion}
use Rattle.machine.specs.Sequential.{Table, first_bits, having, Operation}
use Rattle.machine.specs.Records.{Leaf, Worker, Machine, new_bucket, first_cells, opened}
use Rattle.machine.specs.DirectoryPass.{copy_of, name_of}
use Rattle.machine.specs.Calls.{settings, listing, listing_of}
use Rattle.machine.specs.Systems.{machines, Entry, calling, stepping, showing, reopening, next, asked, calls_to}
use Rattle.machine.specs.History.{Member, Distinct, serve_if, entry_at, state_at, is_call, OpeningsRefused}
use Rattle.machine.specs.History.{Ended, answers_to, table_after, table_at, Linearizable, Demand3}
use Rattle.machine.proofs.laws.Base.{no_both, if_true, and_parts, none_some, neither_less}
use Rattle.machine.proofs.laws.Copies.{Coherent, depth_at_le, leaf_of_copy_of, partition_of}
use Rattle.machine.proofs.Listing.{contents_is}
use Rattle.machine.proofs.Openings.{opening_leaves}
use Rattle.machine.specs.Tasks.{Task, leaf, tasks_of}
use Rattle.machine.proofs.invariant.Inv.{leaf_body}
use Rattle.machine.proofs.invariant.Tasks.{Good, opened_good}
use Rattle.machine.proofs.moments.Explain.{Parts, status, outcome, serve_all, answers_of}
use Rattle.machine.proofs.laws.Serving.{member_dec, member_answers}
use Rattle.machine.proofs.list.Advance.{Advance, advance, answer_in, answer_to, ExplainedEntry, idle_status}
use Rattle.machine.proofs.list.StepBounds.{good-at, last, known, steps_at, update_bound, lookup_bound, alone_bound, alone_told, steps_told}
use Rattle.machine.proofs.list.Refusals.{calls_at, stepped_at, ends_once_at}
use Rattle.machine.proofs.list.WorkerHistory.{WorkerChange, begins, moves_on, ends, no_change, step_within, at_next, last_call, From, under-way, last_here, last_before}

-- ---- lists

member_map : {A B : Type 0} (f : A → B) (y : B) (l : List A) → Member y (map f l) → (x : A) × Member x l × (y ≡ f x)
member_map f y [] h = absurd h
member_map f y (x ∷ l) (inl e) = (x, inl refl, e)
member_map f y (x ∷ l) (inr h) = let r = member_map f y l h in (r.0, inr r.1, r.2)

map_distinct :
    {A B : Type 0} (f : A → B) (l : List A) → ((x y : A) → Member x l → Member y l → f x ≡ f y → x ≡ y) → Distinct l → Distinct (map f l)
map_distinct f [] h d = tt
map_distinct f (x ∷ l) h d = (
  (λ m. let r = member_map f (f x) l m in d.0 (subst (λ z. Member z l) (sym (h x r.0 (inl refl) (inr r.1) r.2)) r.1)),
  map_distinct f l (λ y z a b. h y z (inr a) (inr b)) d.1,
)

-- ---- the plain table after operations, named by calls and by workers

module _ (s : Settings) (m : Machine) (t : Table) (es : List Entry) (tasks : ℕ → Task) (f : ℕ → ℕ) where
  -- f names the calls of the workers' operations
  abbrev Names : List ℕ → Type 0
  Names js = (j : ℕ) → Member j js → asked (entry_at es (f j)) ≡ (tasks j).operation

  table_serve_all : (js : List ℕ) (p : Table) → Names js → table_after s es p (map f js) ≡ serve_all s tasks p js
  unfolding table_after serve_all
  table_serve_all [] p h = refl
  table_serve_all (j ∷ js) p h =
      ap (λ (o : Option Operation). table_after s es (serve_if s o p).1 (map f js)) (h j (inl refl))
      ∙ table_serve_all js (serve_if s (tasks j).operation p).1 (λ i k. h i (inr k))

  answers_serve_all : (js : List ℕ) (p : Table) → Names js → (j : ℕ) (r : Answer) → Member (j, r) (answers_of s tasks p js)
      → Member (f j, r) (answers_to s es p (map f js))
  unfolding answers_to answers_of
  answers_serve_all [] p h j r m = elim m [ ]
  answers_serve_all (i ∷ js) p h j r (inl e) =
      inl (ap (λ (x : ℕ × Answer). (f x.0, x.1)) e ∙ ap (λ (o : Option Operation). (f i, (serve_if s o p).0)) (sym (h i (inl refl))))
  answers_serve_all (i ∷ js) p h j r (inr k) =
      inr (subst (λ (o : Option Operation). Member (f j, r) (answers_to s es (serve_if s o p).1 (map f js))) (sym (h i (inl refl)))
      (answers_serve_all js (serve_if s (tasks i).operation p).1 (λ x y. h x (inr y)) j r k))

same_answer : {a b : Answer} → Some a ≡ Some b → a ≡ b
same_answer e = cc

-- ---- from a good machine whose workers are idle

module _ (s : Settings) (range : in_range s.workers s.capacity s.depth ≡ true) (lent : ℕ) (m : Machine) (t : Table)
    (es : List Entry) (refused : OpeningsRefused s (machines s lent) m t es) (good : Good s m)
    (idle : (j : ℕ) → (m.workers j).operation ≡ None) (unused : (j : ℕ) → (m.workers j).last ≡ 0) (parts : Parts m.cells t) where
  abbrev at : ℕ → Machine
  at i = state_at s (machines s lent) m t es i

  abbrev entry : ℕ → Entry
  entry i = entry_at es i

  abbrev last_call_at : ℕ → ℕ → ℕ
  last_call_at i j = last_call s lent m t es i j

  abbrev good_at : (i : ℕ) → Good s (at i)
  good_at = good-at s range lent m t es refused good idle

  -- the plain table before an index, and that the machine holds it
  record PlainTable (i : ℕ) : Type 0 where
    table : Table
    holds : Parts (at i).cells table

  plain_table : (i : ℕ) → PlainTable i
  unfolding state_at
  plain_table zero = record { table = t; holds = parts }
  plain_table (suc i) =
      let a = (advance s range lent (at i) (plain_table i).table (good_at i) (plain_table i).holds (entry i) (refused i)).explained in
      record { table = serve_all s (tasks_of s (at i)) (plain_table i).table a.effects; holds = a.parts }

  entered : (i : ℕ) → Advance s lent (at i) (entry i) (plain_table i).table
  entered i = advance s range lent (at i) (plain_table i).table (good_at i) (plain_table i).holds (entry i) (refused i)

  abbrev adv : (i : ℕ) → ExplainedEntry s lent (at i) (entry i) (plain_table i).table
  adv i = (entered i).explained

  -- the choice of moments
  moments : ℕ → List ℕ
  moments i = map (last_call_at i) (adv i).effects

  plain_table_next : (i : ℕ) → (plain_table (suc i)).table ≡ serve_all s (tasks_of s (at i)) (plain_table i).table (adv i).effects
  unfolding plain_table entered
  plain_table_next i = refl

  -- ---- who takes effect at an index

  effect_within : (i j : ℕ) → Member j (adv i).effects → i < length es
  effect_within i j h = let x = (entered i).moving j h in step_within s lent m t es i x.0 x.1

  -- the operation that takes effect, and the call it came from
  effect_from :
      (i j : ℕ) → Member j (adv i).effects
      → (o : Operation) × (((at i).workers j).operation ≡ Some o) × From s lent m t es (last_call_at i j) i j o
  effect_from i j h =
      let x = ((adv i).waiting j h).2 in
      (x.0, x.1, under-way s lent m t es refused idle i j x.0 (omega (arith, effect_within i j h)) x.1)

  effect_asked : (i j : ℕ) → Member j (adv i).effects → asked (entry (last_call_at i j)) ≡ (tasks_of s (at i) j).operation
  effect_asked i j h = let x = effect_from i j h in x.2.called.operation ∙ sym x.1

  moment_of : (i c : ℕ) → Member c (moments i) → (j : ℕ) × Member j (adv i).effects × (c ≡ last_call_at i j)
  unfolding moments
  moment_of i c h = member_map (last_call_at i) c (adv i).effects h

  -- one index has one call, to one worker
  one_worker : (c i j : ℕ) → is_call s (machines s lent) m t es c i ≡ true → is_call s (machines s lent) m t es c j ≡ true → i ≡ j
  unfolding calls_to
  one_worker c i j = go (entry c)
    where
      go : (e : Entry) → calls_to (machines s lent) (at c) e i ≡ true → calls_to (machines s lent) (at c) e j ≡ true → i ≡ j
      go (calling k kind a v) p q = sym (eqb-true k i (and_parts _ _ p).0) ∙ eqb-true k j (and_parts _ _ q).0
      go (stepping k) p q = absurd (no_both p refl)
      go (showing x y) p q = absurd (no_both p refl)
      go (reopening n b M) p q = absurd (no_both p refl)

  call_one :
      (p i j : ℕ) {o q : Operation} → From s lent m t es (last_call_at p i) p i o → From s lent m t es (last_call_at p j) p j q
      → last_call_at p i ≡ last_call_at p j → i ≡ j
  call_one p i j u v e =
      one_worker (last_call_at p i) i j u.called.accepted
      (subst (λ (x : ℕ). is_call s (machines s lent) m t es x j ≡ true) (sym e) v.called.accepted)

  -- the plain table of the claim is the one of the points
  table_is : (i : ℕ) → table_at s es t moments i ≡ (plain_table i).table
  unfolding table_at plain_table moments
  table_is zero = refl
  table_is (suc i) =
      ap (λ (p : Table). table_after s es p (moments i)) (table_is i)
      ∙ table_serve_all s m t es (tasks_of s (at i)) (last_call_at i) (adv i).effects (plain_table i).table (effect_asked i)
      ∙ sym (plain_table_next i)

  -- the plain table's answers at an index
  abbrev answers_here : ℕ → List (ℕ × Answer)
  answers_here i = answers_to s es (table_at s es t moments i) (moments i)

  -- and by worker
  abbrev answers_at : ℕ → List (ℕ × Answer)
  answers_at i = answers_of s (tasks_of s (at i)) (plain_table i).table (adv i).effects

  answer_gained : (i j : ℕ) (r : Answer) → Member (j, r) (answers_at i) → Member (last_call_at i j, r) (answers_here i)
  unfolding moments
  answer_gained i j r h =
      subst (λ (p : Table). Member (last_call_at i j, r) (answers_to s es p (map (last_call_at i) (adv i).effects))) (sym (table_is i))
      (answers_serve_all s m t es (tasks_of s (at i)) (last_call_at i) (adv i).effects (plain_table i).table (effect_asked i) j r h)

  -- ---- what an operation under way has had

  abbrev status_here : ℕ → ℕ → Option Answer
  status_here i j = status (at i).cells j (tasks_of s (at i) j)

  -- worker j's operation under way at index i, from the call at index c: without its moment, or with its answer
  record MomentStatus (c i j : ℕ) : Type 0 where
    before : status_here i j ≡ None → (k : ℕ) → k < i → Member c (moments k) → ⊥
    after : (r : Answer) → status_here i j ≡ Some r → (k : ℕ) × (k < i) × Member (c, r) (answers_here k)

  -- with the answer that the entry at index i gives worker j, or else its status afterwards
  abbrev ending : ℕ → ℕ → Option Answer → Option Answer
  ending i j a = outcome a (next (machines s lent) (at i) (entry i)).cells j (tasks_of s (next (machines s lent) (at i) (entry i)) j)

  -- after an entry that gives worker j no answer
  gained_status :
      (i j : ℕ) (r : Answer) → answer_to s (at i) (entry i) j ≡ None → Member (j, r) (answers_at i) → status_here (suc i) j ≡ Some r
  unfolding state_at
  gained_status i j r a h = subst (λ (x : Option Answer). ending i j x ≡ Some r) a ((adv i).gained j r h)

  other_status :
      (i j : ℕ) → j < s.workers → answer_to s (at i) (entry i) j ≡ None → (Member j (adv i).effects → ⊥)
      → status_here (suc i) j ≡ status_here i j
  unfolding state_at
  other_status i j l a h = subst (λ (x : Option Answer). ending i j x ≡ status_here i j) a ((adv i).others j l h)

  module _ (i j : ℕ) (o : Operation) (l : i < length es) (jn : j < s.workers) where
    -- the call has just been made
    moment_new :
        is_call s (machines s lent) m t es i j ≡ true → ((at i).workers j).operation ≡ None → answer_to s (at i) (entry i) j ≡ None
        → MomentStatus i (suc i) j
    moment_new c b a = record {
      before = λ e k p h. let x = moment_of k i h in omega (arith, (effect_from k x.0 x.1).2.before, x.2);
      after = λ r e. absurd (none_some (other_status i j jn a (λ h. none_some b ((adv i).waiting j h).2.1) ∙ idle_status s (at i) j b) e);
    }

    -- it was under way, and still is
    moment_on :
        ((at i).workers j).operation ≡ Some o → answer_to s (at i) (entry i) j ≡ None → MomentStatus (last_call_at i j) i j
        → MomentStatus (last_call_at i j) (suc i) j
    moment_on e a st = go (member_dec j (adv i).effects)
      where
        u : From s lent m t es (last_call_at i j) i j o
        u = under-way s lent m t es refused idle i j o (omega arith) e

        other :
            (Member j (adv i).effects → ⊥) → (k : ℕ) → k < suc i → Dec (k ≡ i) → status_here i j ≡ None
            → Member (last_call_at i j) (moments k) → ⊥
        other h k p (no d) q x = st.before q k (omega arith) x
        other h k p (yes d) q x =
            let y = moment_of i (last_call_at i j) (subst (λ (z : ℕ). Member (last_call_at i j) (moments z)) d x) in
            let v = effect_from i y.0 y.1 in
            h (subst (λ (z : ℕ). Member z (adv i).effects) (sym (call_one i j y.0 u v.2 y.2)) y.1)

        go : Dec (Member j (adv i).effects) → MomentStatus (last_call_at i j) (suc i) j
        go (yes h) =
            let x = member_answers s (tasks_of s (at i)) (plain_table i).table (adv i).effects j h in
            let g : status_here (suc i) j ≡ Some x.0 = gained_status i j x.0 a x.1 in
            record {
              before = λ q. absurd (none_some q g);
              after = λ r q. (
                i,
                omega arith,
                subst (λ (y : Answer). Member (last_call_at i j, y) (answers_here i)) (same_answer (sym g ∙ q))
                    (answer_gained i j x.0 x.1),
              );
            }
        go (no h) =
            let g : status_here (suc i) j ≡ status_here i j = other_status i j jn a h in
            record {
              before = λ q k p x. other h k p (ℕ_discrete k i) (sym g ∙ q) x;
              after = λ r q. let x = st.after r (sym g ∙ q) in (x.0, omega (arith, x.1), x.2);
            }

  moment_status :
      (i j : ℕ) (o : Operation) → i ≤ length es → j < s.workers → ((at i).workers j).operation ≡ Some o → MomentStatus (last_call_at i j) i j
  unfolding state_at
  moment_status zero j o l jn e = absurd (none_some (idle j) e)
  moment_status (suc i) j o l jn e = go (moment_status i j o (omega arith) jn) (at_next s lent m t es refused idle i j)
    where
      same :
          is_call s (machines s lent) m t es i j ≡ false → ((at i).workers j).operation ≡ Some o → answer_to s (at i) (entry i) j ≡ None
          → MomentStatus (last_call_at i j) i j
          → MomentStatus (last_call_at (suc i) j) (suc i) j
      same f q a st =
          subst (λ (c : ℕ). MomentStatus c (suc i) j) (sym (last_before s lent m t es i j f)) (moment_on i j o (omega arith) jn q a st)

      go :
          (((at i).workers j).operation ≡ Some o → MomentStatus (last_call_at i j) i j)
          → WorkerChange s lent (at i) (entry i) j ((at (suc i)).workers j)
          → MomentStatus (last_call_at (suc i) j) (suc i) j
      go h (begins c b q z a) =
          subst (λ (c : ℕ). MomentStatus c (suc i) j) (sym (last_here s lent m t es i j c)) (moment_new i j o (omega arith) jn c b a)
      go h (moves_on c st q z a) = same c (sym q ∙ e) a (h (sym q ∙ e))
      go h (ends x v a r c st q z) = absurd (none_some q e)
      go h (no_change c st q a) = let p = ap (λ (w : Worker). w.operation) (sym q) ∙ e in same c p a (h p)

  -- ---- the claim, part by part

  distinct_at : (i : ℕ) → Distinct (moments i)
  unfolding moments
  distinct_at i = map_distinct (last_call_at i) (adv i).effects
      (λ x y a b e. let u = effect_from i x a in let v = effect_from i y b in call_one i x y u.2 v.2 e) (adv i).distinct

  -- no operation takes effect at an earlier index too
  earlier : (i k c : ℕ) → i < k → Member c (moments i) → Member c (moments k) → ⊥
  earlier i k c l p q =
      let x = moment_of k c q in
      let w = (adv k).waiting x.0 x.1 in
      let u = effect_from k x.0 x.1 in
      (moment_status k x.0 u.0 (omega (arith, effect_within k x.0 x.1)) w.0 u.1).before w.1 i l
      (subst (λ (y : ℕ). Member y (moments i)) x.2 p)

  once_at : (i k c : ℕ) → Member c (moments i) → Member c (moments k) → i ≡ k
  once_at i k c p q = neither_less i k (λ l. earlier i k c l p q) (λ l. earlier k i c l q p)

  -- the step that ends an operation gives the answer that the plain table gave
  module _ (c i j : ℕ) (o : Operation) (r : Completion) (e : Ended s (machines s lent) m t es c i j o r) where
    ended : (((at i).workers j).operation ≡ Some o) × (last_call_at i j ≡ c) × From s lent m t es c i j o
    ended = last s range lent m t es refused good idle c i j o r e

    worker : j < s.workers
    worker = known s range lent m t es refused good idle c i j o r e

    given : answer_to s (at i) (entry i) j ≡ Some r.answer
    given = ap (λ (x : Entry). answer_to s (at i) x j) e.entry ∙ if_true _ _ (eq-eqb j j refl) ∙ ap answer_in e.answered

    abbrev AnswerFound : Type 0
    AnswerFound = (k : ℕ) × (k ≤ i) × Member (c, r.answer) (answers_here k)

    answer-at : AnswerFound
    answer-at = subst (λ (x : ℕ). (k : ℕ) × (k ≤ i) × Member (x, r.answer) (answers_here k)) ended.1 (go (member_dec j (adv i).effects))
      where
        go : Dec (Member j (adv i).effects) → (k : ℕ) × (k ≤ i) × Member (last_call_at i j, r.answer) (answers_here k)
        go (yes h) =
            let x = member_answers s (tasks_of s (at i)) (plain_table i).table (adv i).effects j h in
            let g : Some r.answer ≡ Some x.0 =
            subst (λ (y : Option Answer). ending i j y ≡ Some x.0) given ((adv i).gained j x.0 x.1) in (
              i,
              omega arith,
              subst (λ (y : Answer). Member (last_call_at i j, y) (answers_here i)) (sym (same_answer g))
                  (answer_gained i j x.0 x.1),
            )
        go (no h) =
            let g : Some r.answer ≡ status_here i j = subst (λ (y : Option Answer). ending i j y ≡ status_here i j) given
            ((adv i).others j worker h) in
            let x = (moment_status i j o (omega (arith, e.in_list)) worker ended.0).after r.answer (sym g) in
            (x.0, omega (arith, x.1), x.2)

  -- ---- listings

  listing_at : (p x y : ℕ) → listing (at p) x y ≡ listing_of (table_at s es t moments p) x y
  unfolding listing copy_of
  listing_at p x y = ap (λ (z : Table). listing_of z x y)
      (contents_is (at p) (plain_table p).table (omega (arith, coherent.bound, limits.greatest-depth)) names part
      (plain_table p).holds.ascending
      ∙ sym (table_is p))
    where
      limits : Range s.workers s.capacity s.depth
      limits = range_of s.workers s.capacity s.depth range

      coherent : Coherent s.depth (copy_of (at p).cells.directory.value)
      coherent = (good_at p).directory

      prefix : (a : ℕ) → (leaf (at p).cells a).prefix ≡ first_bits (leaf (at p).cells a).depth a
      prefix a = sym ((partition_of _ coherent).named a)

      names : (a : ℕ) → ((leaf (at p).cells a).depth ≤ (at p).cells.directory.value.depth)
          × ((leaf (at p).cells a).prefix ≡ first_bits (leaf (at p).cells a).depth a)
      names a = (
        subst (λ (l : Leaf). (name_of l).depth ≤ (at p).cells.directory.value.depth) (leaf_of_copy_of _ a) (depth_at_le coherent a),
        prefix a,
      )

      part :
          (a : ℕ) → (leaf_body (at p).cells a).items ≡ having (leaf (at p).cells a).depth (leaf (at p).cells a).prefix
          (plain_table p).table
      part a = (plain_table p).holds.part a ∙ ap (λ (q : ℕ). having (leaf (at p).cells a).depth q (plain_table p).table) (sym (prefix a))

  -- ---- the theorem, from any such machine

  pub linearizable : Linearizable s (machines s lent) m t es
  linearizable = record {
    moments = moments;
    at_steps = λ i c h. let x = moment_of i c h in (effect_within i x.0 x.1, (entered i).moving x.0 x.1);
    of_operations = λ i c h.
        let x = moment_of i c h in
        let u = effect_from i x.0 x.1 in
        rw x.2 (u.2.before, (x.0, (u.0, u.2.called)));
    once = once_at;
    distinct = distinct_at;
    answers = answer-at;
    listings = λ p x y l. listing_at p x y;
    lookup_steps = lookup_bound s range lent m t es refused good idle;
    update_steps = update_bound s range lent m t es refused good idle;
    step_counts = steps_at s range lent m t es refused good idle;
    told_steps = steps_told s range lent m t es refused good idle;
    alone = λ z c i j u r e. alone_told s range lent m t es refused good idle c i j u r e z;
    alone_steps = alone_bound s range lent m t es refused good idle;
    ends_once = ends_once_at s lent m t es refused idle;
    calls = λ i j kind a v l e. calls_at s lent m t es refused idle unused i j kind a v;
    steps = λ i j l e. stepped_at s lent m t es refused idle i j;
  }

-- ---- demand 3

-- a fresh table is the empty one
opened_parts : Parts opened.cells []
unfolding opened first_cells new_bucket having
opened_parts = record { ascending = tt; part = λ a. refl }

opened_idle : (j : ℕ) → (opened.workers j).operation ≡ None
unfolding opened
opened_idle j = refl

opened_unused : (j : ℕ) → (opened.workers j).last ≡ 0
unfolding opened
opened_unused j = refl

pub demand3 : Demand3
demand3 n b M lent s m e =
    let a = opening_leaves n b M lent e in
    rw (a.with-settings, a.leaves) (λ es refused.
    linearizable (settings n b M) a.range lent opened [] es refused (opened_good (settings n b M) a.range) opened_idle opened_unused
    opened_parts)
