-- The search over a good log finds exactly the first order that explains it. Rests on SearchLaws.
use Prim.Native.Nat.{ℕ, ◌≤◌, ◌<◌}
use native.Mathlib.Omega.{arith}
use native.Mathlib.Decide.{ℕ_discrete}
use mathlib.Core.Path.{◌≡◌, refl, sym, ap, ◌∙◌, subst}
use mathlib.Core.Logic.{inl, inr, by_cases}
use mathlib.Core.Bool.{Bool, true, false}
use mathlib.Core.List.{List, [], ◌∷◌}
use Rattle.std.specs.Prelude.{Some}
use Rattle.std.proofs.lemmas.Option.{same_Some}
use lib.Dec.{leb}
use lib.ListN.{length}
use borrow.Author.Tests.{leb-true, ltb-true, lt-ltb, le-ltb}
use Rattle.machine.specs.Choice.{assign}
use Rattle.machine.specs.Sequential.{Table}
use Rattle.machine.specs.History.{Member, Distinct}
use Rattle.machine.proofs.laws.Base.{no_both, none_some, is_false, and_parts}
use Rattle.logs.specs.Log.{Log, greatest_operations, all, is_operation, precedes, is_log}
use Rattle.logs.specs.Orders.{served_at, InTime, GivesAll, Explains}
use Rattle.logs.specs.Search.{count_left, ready, Completes}
use Rattle.logs.specs.Comparing.{NotAfter}
use Rattle.logs.specs.Judging.{earlier_in, places_of, order_of, First, AllFirst}
use Rattle.logs.proofs.ComparingLaws.{both_first}
use Rattle.logs.proofs.Left.{all_at, left_before, not_taken, others_left, left_below}
use Rattle.logs.proofs.SearchLaws.{ready_at, ready_of, sound_at, first_at, order_length}

-- ---- good logs

log_parts : (log : Log) → is_log log ≡ true
    → (leb log.count greatest_operations ≡ true) × (all log.count (λ i. is_operation (log.at i)) ≡ true)
unfolding is_log
log_parts log e = and_parts _ _ (and_parts _ _ e).0

-- no operation was answered before its own call
not_before_itself : (log : Log) → is_log log ≡ true → (i : ℕ) → i < log.count → earlier_in log i i ≡ false
unfolding is_operation earlier_in precedes
not_before_itself log e i l =
    let h = (and_parts _ _ (all_at log.count (λ j. is_operation (log.at j)) (log_parts log e).1 i l)).1 in
    let k = ltb-true (log.at i).call (log.at i).end h in
    le-ltb (log.at i).end (log.at i).call (omega arith)

-- so many are left at the start of the search
pub places_count : (log : Log) → log.count ≤ greatest_operations → count_left greatest_operations (places_of log) ≡ log.count
unfolding places_of
places_count log l =
    left_below greatest_operations log.count (places_of log) l (λ i k. lt-ltb i log.count k) (λ i k j. le-ltb i log.count k)

module _ (b M : ℕ) (log : Log) where
  abbrev Order : (ℕ → Bool) → Table → List ℕ → Type 0
  Order = Completes Table greatest_operations (served_at b M log) (earlier_in log)

  -- ---- what an order of all that is left gives

  order_members : (o : List ℕ) (left : ℕ → Bool) (t : Table) → Order left t o → (i : ℕ) → Member i o
      → (i < greatest_operations) × (left i ≡ true)
  order_members [] left t c i m = absurd m
  order_members (j ∷ o) left t c i (inl e) = rw e (c.0, c.1.0)
  order_members (j ∷ o) left t c i (inr m) =
      let z = order_members o (assign left j false) c.1.1.1.0 c.1.1.1.1.1 i m in (z.0, left_before left j i z.1)

  order_all : (o : List ℕ) (left : ℕ → Bool) (t : Table) → Order left t o → (i : ℕ) → i < greatest_operations → left i ≡ true
      → Member i o
  order_all [] left t c i l e = no_both e (c i l)
  order_all (j ∷ o) left t c i l e =
      by_cases (ℕ_discrete i j) (λ z. inl z)
      (λ z. inr (order_all o (assign left j false) c.1.1.1.0 c.1.1.1.1.1 i l (others_left left j i z e)))

  order_distinct : (o : List ℕ) (left : ℕ → Bool) (t : Table) → Order left t o → Distinct o
  order_distinct [] left t c = tt
  order_distinct (j ∷ o) left t c =
      let u = c.1.1.1.0 in
      let d = c.1.1.1.1.1 in
      (λ m. not_taken left j j (order_members o (assign left j false) u d j m).1 refl, order_distinct o (assign left j false) u d)

  order_in_time : (o : List ℕ) (left : ℕ → Bool) (t : Table) → Order left t o → InTime log o
  unfolding earlier_in
  order_in_time [] left t c = tt
  order_in_time (j ∷ o) left t c = (
    λ k m.
        let z = order_members (j ∷ o) left t c k (inr m) in
        ready_at Table greatest_operations (served_at b M log) (earlier_in log) left j c.1.1.0 k z.0 z.1,
    order_in_time o (assign left j false) c.1.1.1.0 c.1.1.1.1.1,
  )

  order_gives : (o : List ℕ) (left : ℕ → Bool) (t : Table) → Order left t o → GivesAll b M log t o
  order_gives [] left t c = tt
  order_gives (j ∷ o) left t c =
      (c.1.1.1.0, (c.1.1.1.1.0, order_gives o (assign left j false) c.1.1.1.0 c.1.1.1.1.1))

  -- ---- and what makes one

  order-of : (o : List ℕ) (left : ℕ → Bool) (t : Table) → Distinct o
      → ((i : ℕ) → Member i o → (i < greatest_operations) × ((left i ≡ true) × (earlier_in log i i ≡ false)))
      → ((i : ℕ) → i < greatest_operations → left i ≡ true → Member i o) → InTime log o → GivesAll b M log t o → Order left t o
  unfolding earlier_in
  order-of [] left t d members every time gives = λ i l. is_false (left i) (every i l)
  order-of (j ∷ o) left t d members every time gives =
      let h = members j (inl refl) in
      let rest = order-of o (assign left j false) gives.0 d.1 members' every' time.1 gives.1.1 in
      (h.0, (h.1.0, (is_ready, (gives.0, (gives.1.0, rest)))))
    where
      is_ready : ready Table greatest_operations (served_at b M log) (earlier_in log) left j ≡ true
      is_ready = ready_of Table greatest_operations (served_at b M log) (earlier_in log) left j (λ k l e. at k (every k l e))
        where
          at : (k : ℕ) → Member k (j ∷ o) → earlier_in log k j ≡ false
          at k (inl z) = rw z (members j (inl refl)).1.1
          at k (inr m) = time.0 k m

      members' : (i : ℕ) → Member i o → (i < greatest_operations) × ((assign left j false i ≡ true) × (earlier_in log i i ≡ false))
      members' i m =
          let h = members i (inr m) in
          (h.0, (others_left left j i (λ z. d.0 (subst (λ x. Member x o) z m)) h.1.0, h.1.1))

      every' : (i : ℕ) → i < greatest_operations → assign left j false i ≡ true → Member i o
      every' i l e = at (every i l (left_before left j i e))
        where
          at : Member i (j ∷ o) → Member i o
          at (inl z) = absurd (not_taken left j i e z)
          at (inr m) = m

  module _ (good : is_log log ≡ true) where
    fewer : log.count ≤ greatest_operations
    fewer = leb-true log.count greatest_operations (log_parts log good).0

    count : count_left greatest_operations (places_of log) ≡ log.count
    count = places_count log fewer

    order_explains : (o : List ℕ) → Order (places_of log) [] o → Explains b M log o
    unfolding places_of
    order_explains o c =
        record {
          once = record {
            distinct = order_distinct o (places_of log) [] c;
            places = λ i m. ltb-true i log.count (order_members o (places_of log) [] c i m).1;
            all_places = λ i l. order_all o (places_of log) [] c i (omega (arith, fewer)) (lt-ltb i log.count l);
          };
          in_time = order_in_time o (places_of log) [] c;
          answers = order_gives o (places_of log) [] c;
        }

    explains_order : (o : List ℕ) → Explains b M log o → Order (places_of log) [] o
    unfolding places_of
    explains_order o x =
        order-of o (places_of log) [] x.once.distinct
        (λ i m. let l = x.once.places i m in (omega (arith, fewer), (lt-ltb i log.count l, not_before_itself log good i l)))
        (λ i l e. x.once.all_places i (ltb-true i log.count e)) x.in_time x.answers

-- an order that explains a log has as many places
pub explained_length : (b M : ℕ) (log : Log) → is_log log ≡ true → (o : List ℕ) → Explains b M log o → length o ≡ log.count
explained_length b M log good o x =
    order_length Table greatest_operations (served_at b M log) (earlier_in log) (places_of log) [] o (explains_order b M log good o x)
    ∙ count b M log good

-- ---- the first order

-- a log has one first order at most
pub one_first : (b M : ℕ) (log : Log) (o p : List ℕ) → First b M log o → First b M log p → o ≡ p
one_first b M log o p x y = both_first o p (x.before_others p y.explains) (y.before_others o x.explains)

module _ (b M : ℕ) (log : Log) (good : is_log log ≡ true) where
  -- where an order explains the log, the search finds one that is not after it
  found_by : (o : List ℕ) → Explains b M log o → (p : List ℕ) × ((order_of b M log ≡ Some p) × NotAfter p o)
  unfolding order_of
  found_by o x =
      first_at Table greatest_operations (served_at b M log) (earlier_in log) log.count (places_of log) [] o (count b M log good)
      (explains_order b M log good o x)

  found_explains : (o : List ℕ) → order_of b M log ≡ Some o → Explains b M log o
  unfolding order_of
  found_explains o e =
      order_explains b M log good o
      (sound_at Table greatest_operations (served_at b M log) (earlier_in log) log.count (places_of log) [] o (count b M log good) e)

  found_first : (o : List ℕ) → order_of b M log ≡ Some o → First b M log o
  found_first o e =
      record {
        explains = found_explains o e;
        before_others = λ p x.
            let f = found_by p x in
            subst (λ q. NotAfter q p) (same_Some f.0 o (sym f.1.0 ∙ e)) f.1.1;
      }

pub all_first : AllFirst
all_first b M log good =
    record {
      found_first = found_first b M log good;
      first_found = λ o x.
          let f = found_by b M log good o x.explains in
          f.1.0 ∙ ap Some (one_first b M log f.0 o (found_first b M log good f.0 f.1.0) x);
      none_explains = λ e o x. none_some e (found_by b M log good o x).1.0;
    }
