-- The lookups that take effect in a change of the cells: each holds its account's bucket until the change supersedes it by deeper ones, and
-- takes effect just before the updates that are carried out. Rests on the laws of serving and on the theory of a change.
use Prim.Native.Nat.{ℕ, zero, suc, ◌≤◌, ◌<◌}
use native.Mathlib.Omega.{arith}
use mathlib.Core.Path.{◌≡◌, refl, ap, sym, ◌∙◌}
use mathlib.Core.Logic.{◌⊎◌, inl, inr}
use mathlib.Core.Bool.{Bool, true, false}
use mathlib.Core.List.{List, ◌∷◌}
use Rattle.std.specs.Prelude.{Some, None}
use Rattle.interface.specs.declared.Settings.{Settings}
use Rattle.interface.specs.declared.Answer.{Answer}
use Rattle.machine.specs.Sequential.{Table, lookup, find, looked}
use Rattle.machine.specs.Records.{same, Bucket, Cells}
use Rattle.machine.specs.History.{Member, Distinct, serve_if}
use Rattle.machine.proofs.laws.Base.{if_true, if_false, below_suc}
use Rattle.machine.proofs.laws.Cells.{same_false, same_true}
use Rattle.machine.proofs.laws.Tables.{find_having_in}
use Rattle.machine.specs.Tasks.{Task, target, leaf, held, own}
use Rattle.machine.proofs.invariant.Inv.{body, Hold}
use Rattle.machine.proofs.invariant.Change.{same_bucket, deeper_bucket, LeafEvolves}
use Rattle.machine.proofs.moments.Explain.{Parts, lookup_status, status, serve_all, answers_of, Unserved, Explained}
use Rattle.machine.proofs.laws.Serving.{member_dec, serve_if_lookup}

-- A lookup, k, that holds a bucket which the change does not touch: it has had what it had, or it has just had the plain table's answer.
pub looked-up :
    (s : Settings) (c c' : Cells) (t : Table) → Parts c t → (j : ℕ) (k : Task) → LeafEvolves s c c' (target k) → own c' k ≡ own c k
    → Hold s c j k
    → (lookup_status c' k ≡ lookup_status c k) ⊎ ((lookup_status c k ≡ None) × (lookup_status c' k ≡ Some (looked (find t (target k)))))
looked-up s c c' t parts j k v e h = go (same (held k) (leaf c a)) refl (same (held k) (leaf c' a)) refl
  where
    a : ℕ
    a = target k

    kept : Some (looked (find (body c' (held k)).items a)) ≡ Some (looked (find (body c (held k)).items a))
    kept = ap (λ (b : Bucket). Some (looked (find b.state.value.body.items a))) e

    back : held k ≡ leaf c' a → LeafEvolves s c c' a → held k ≡ leaf c a
    back q (same_bucket x f g) = q ∙ x
    back q (deeper_bucket l m f) = absurd (omega (arith, h.depth, ap (λ x. x.depth) q))

    go : (x : Bool) → same (held k) (leaf c a) ≡ x → (y : Bool) → same (held k) (leaf c' a) ≡ y
        → (lookup_status c' k ≡ lookup_status c k) ⊎ ((lookup_status c k ≡ None) × (lookup_status c' k ≡ Some (looked (find t a))))
    go true x true y = inl (if_true _ _ y ∙ sym (if_true _ _ x))
    go false x false y = inl (if_false _ _ y ∙ kept ∙ sym (if_false _ _ x))
    go false x true y = absurd (same_false _ _ x (back (same_true _ _ y) v))
    go true x false y = inr (if_true _ _ x, if_false _ _ y ∙ kept ∙ ap (λ o. Some (looked o)) part)
      where
        part : find (body c (held k)).items a ≡ find t a
        part = rw (same_true _ _ x, parts.part a) (find_having_in _ _ t a refl)

module _ (s : Settings) (c c' : Cells) (tasks : ℕ → Task) (t : Table) where
  -- a lookup that takes effect in the change
  pub record LookupEffect (j : ℕ) : Type 0 where
    pub asked : ℕ
    pub asks : (tasks j).operation ≡ Some (lookup asked)
    pub unanswered : status c j (tasks j) ≡ None
    pub answered : status c' j (tasks j) ≡ Some (looked (find t (target (tasks j))))

  -- The change as explained for the workers below m, and for the workers js, whose updates it carries out.
  pub record ExplainedBelow (js : List ℕ) (m : ℕ) : Type 0 where
    pub effects : List ℕ
    pub keeps : (j : ℕ) → Member j js → Member j effects
    pub distinct : Distinct effects
    pub waiting : (j : ℕ) → Member j effects → Unserved s c tasks j
    pub parts : Parts c' (serve_all s tasks t effects)
    pub gained : (j : ℕ) (r : Answer) → Member (j, r) (answers_of s tasks t effects) → status c' j (tasks j) ≡ Some r
    pub others : (j : ℕ) → j < m → (Member j effects → ⊥) → status c' j (tasks j) ≡ status c j (tasks j)

  module _ {js : List ℕ} {m : ℕ} (q : ExplainedBelow js m) where
    takes_effect : m < s.workers → LookupEffect m → (Member m q.effects → ⊥) → ExplainedBelow js (suc m)
    unfolding serve_all answers_of
    takes_effect mn h n = record {
      effects = m ∷ q.effects;
      keeps = λ j x. inr (q.keeps j x);
      distinct = (n, q.distinct);
      waiting = waiting;
      parts = rw e q.parts;
      gained = gained;
      others = below_suc _ m (λ j l y. q.others j l (λ x. y (inr x))) (λ y. absurd (y (inl refl)));
    }
      where
        e : serve_if s (tasks m).operation t ≡ (looked (find t (target (tasks m))), t)
        e = rw h.asks (serve_if_lookup s h.asked t)

        waiting : (j : ℕ) → Member j (m ∷ q.effects) → Unserved s c tasks j
        waiting j (inl x) = rw x (mn, h.unanswered, (lookup h.asked, h.asks))
        waiting j (inr x) = q.waiting j x

        gained : (j : ℕ) (r : Answer) → Member (j, r) (answers_of s tasks t (m ∷ q.effects)) → status c' j (tasks j) ≡ Some r
        gained j r (inl x) = rw (ap (λ z. z.0) x) (h.answered ∙ ap Some (sym (ap (λ z. z.1) x ∙ ap (λ z. z.0) e)))
        gained j r (inr x) = q.gained j r (rw e at x)

    keeps_status : ((Member m q.effects → ⊥) → status c' m (tasks m) ≡ status c m (tasks m)) → ExplainedBelow js (suc m)
    keeps_status e = record {
      effects = q.effects;
      keeps = q.keeps;
      distinct = q.distinct;
      waiting = q.waiting;
      parts = q.parts;
      gained = q.gained;
      others = below_suc _ m q.others e;
    }

  -- each worker that is not among js has had what it had, or is a lookup that takes effect
  module _ (js : List ℕ) (v : (j : ℕ) → j < s.workers → (Member j js → ⊥) → LookupEffect j
      ⊎ (status c' j (tasks j) ≡ status c j (tasks j)))
      (q : ExplainedBelow js 0) where
    explained_below : (m : ℕ) → m ≤ s.workers → ExplainedBelow js m
    explained_below zero l = q
    explained_below (suc m) l = go (explained_below m (omega arith))
      where
        go : ExplainedBelow js m → ExplainedBelow js (suc m)
        go y = elim (member_dec m y.effects) [
          | yes x ↦ keeps_status y (λ n. absurd (n x))
          | no n ↦ elim (v m (omega arith) (λ x. n (y.keeps m x)))
              [ inl h ↦ takes_effect y (omega arith) h n | inr e ↦ keeps_status y (λ x. e) ]
        ]

    pub explained_change : Explained s c c' tasks tasks (λ j. None) t
    explained_change =
        let x = explained_below s.workers (omega arith) in
        record {
          effects = x.effects;
          distinct = x.distinct;
          waiting = x.waiting;
          parts = x.parts;
          gained = x.gained;
          others = x.others;
        }
