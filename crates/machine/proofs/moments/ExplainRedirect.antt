-- A directory swap that succeeds is explained by the plain table: the lookups whose bucket it replaces take effect first, then the updates
-- that it carries out, in worker order. Rests on what a round makes of a full bucket, on a copy for each bucket, and on the invariant.
use Prim.Native.Nat.{ℕ, zero, suc, ◌≤◌, ◌<◌}
use native.Mathlib.Omega.{arith}
use mathlib.Core.Path.{◌≡◌, refl, ap, sym, ◌∙◌, subst}
use mathlib.Core.Logic.{◌⊎◌, inl, inr}
use mathlib.Core.Bool.{Bool, true, false}
use Rattle.std.specs.Prelude.{Some, None}
use borrow.Author.Tests.{eqb-true, not-true}
use Rattle.interface.specs.declared.Settings.{Settings}
use Rattle.machine.specs.Choice.{when◌then◌else◌, ◌and◌}
use Rattle.machine.specs.Sequential.{Table, Update, account, update}
use Rattle.machine.specs.Records.{Name, Body, Leaf, kept, made, Copy, Slot, empty, announced, Cells}
use Rattle.machine.specs.DirectoryPass.{leaf_of, name_of, take_update, take_slot, take_slots}
use Rattle.machine.specs.History.{Member}
use Rattle.machine.proofs.laws.Base.{no_both, if_elim, if_true, if_false, if_same, if_eq, and_true, and_parts}
use Rattle.machine.proofs.laws.Cells.{same_elim}
use Rattle.machine.proofs.laws.Copies.{InBucket, leaf_replaced, Coherent, Partition, partition_of, partition_name}
use Rattle.machine.specs.Counter.{Two, PC, look₂, swap_d, in_d}
use Rattle.machine.proofs.invariant.Counter.{after_d, UnderWay, by_counter}
use Rattle.machine.proofs.invariant.CounterFacts.{under_after_d}
use Rattle.machine.specs.Tasks.{Task, target, leaf, DirectoryFresh, own}
use Rattle.machine.proofs.invariant.Inv.{uniform, resolved, body, leaf_body, SettledSlot, Hold, ResolvedTo, KeptOrResolved, Announced, Looking, SlotFacts, ReadFacts, Inv}
use Rattle.machine.proofs.invariant.Preservation.{goes, under_announced}
use Rattle.machine.proofs.laws.Resolve.{Made, resolved_ok, due, made_body}
use Rattle.machine.proofs.invariant.Change.{LeafEvolves}
use Rattle.machine.proofs.invariant.Transitions.{redirected_cells}
use Rattle.machine.proofs.steps.SwapDirectory.{kept_or_resolved, remade_ok, leaf_old, leaf_new, taken_real, buckets_changed, own_same, copy_coherent, due_open}
use Rattle.machine.proofs.moments.Explain.{Parts, lookup_status, status_at, status, ExplainedStep}
use Rattle.machine.proofs.moments.Statuses.{UnsettledUpdate, unsettled_status, Linearized, linearized_same, linearized_later, explained_goes, linearized_none, linearized_parts, linearized_gained, linearized_others}
use Rattle.machine.proofs.moments.BucketCopies.{own_leaf, replace_copy, BucketCopies, taking}
use Rattle.machine.proofs.moments.LookupEffects.{looked-up, LookupEffect, explained_change}

-- ---- leaves and slots

-- made in the round
abbrev is_made : Leaf → Bool
is_made (kept x) = false
is_made (made x b) = true

-- a slot that is not due is not taken
take_not : (s : Settings) (x : Name) (b : Body) (j : ℕ) (o : Slot) (C : Copy) → (due x b j o ≡ true → ⊥) → take_slot s x b j o C ≡ C
unfolding take_slot
take_not s x b j empty C n = refl
take_not s x b j (announced u tk) C n = if_elim (λ (D : Copy). D ≡ C) (due x b j (announced u tk)) _ C (λ d. absurd (n d)) (λ d. refl)

module _
    (s : Settings) (small : s.depth ≤ 32) (w : ℕ) (wn : w < s.workers) (c : Cells) (tasks : ℕ → Task) (i : Inv s c tasks) (p r : Two)
    (here : (tasks w).pc ≡ in_d p r swap_d) (fresh : DirectoryFresh c (tasks w)) (t : Table) (parts : Parts c t)
  where
    abbrev k : Task
    k = tasks w

    abbrev copy : Copy
    copy = k.reads.copy

    abbrev slots : ℕ → Slot
    slots = k.reads.slots

    abbrev c' : Cells
    c' = redirected_cells c k

    partition : Partition s.depth (leaf c)
    partition = partition_of _ i.directory

    coherent : Coherent s.depth copy
    coherent = copy_coherent s small w wn c tasks i p r here fresh

    works : (a : ℕ) → KeptOrResolved s c k a
    works = kept_or_resolved s small w wn c tasks i p r here fresh

    -- the swap splits account a's bucket
    abbrev splits : ℕ → Bool
    splits a = is_made (leaf_of copy a)

    -- what the round makes of account a's bucket, if it splits it, once the slots of the workers below j are taken
    abbrev copy_after : ℕ → ℕ → Copy
    copy_after j a = resolved s (leaf c a) (leaf_body c a) slots (when splits a then j else 0)

    copy_after_made : (j a : ℕ) → Made s (leaf c a) (leaf_body c a) slots (when splits a then j else 0) (copy_after j a)
    copy_after_made j a = resolved_ok s small (leaf c a) a (partition_name partition a) (partition.bound a) (leaf_body c a) slots _

    -- ---- the buckets that are split

    resolved_splits : (a : ℕ) → ResolvedTo s slots (leaf c a) (leaf_body c a) a (leaf_of copy a) → splits a ≡ true
    resolved_splits a g = ap is_made (g.is ∙ (remade_ok s small w wn c tasks i p r here fresh a).stands a (partition.named a))

    splits_same : (a e : ℕ) → leaf c e ≡ leaf c a → splits e ≡ splits a
    splits_same a e q = go (works a) (works e)
      where
        not_split : (a e : ℕ) → leaf c e ≡ leaf c a → leaf_of copy a ≡ kept (leaf c a) → splits e ≡ splits a
        not_split a e q z = ap is_made (coherent.shared a e (rw z (subst (λ (x : Name). InBucket x e) q (partition.named e))))

        go : KeptOrResolved s c k a → KeptOrResolved s c k e → splits e ≡ splits a
        go (inl z) y = not_split a e q z
        go (inr z) (inl y) = sym (not_split e a (sym q) y)
        go (inr z) (inr y) = resolved_splits e y ∙ sym (resolved_splits a z)

    copy_after_ok : (j : ℕ) → BucketCopies s c (copy_after j)
    copy_after_ok j = record {
      one = λ a e q.
          ap (λ (x : Name). resolved s x (body c x) slots (when splits e then j else 0)) q
          ∙ ap (λ (b : Bool). resolved s (leaf c a) (leaf_body c a) slots (when b then j else 0)) (splits_same a e q);
      coherent = λ a. (copy_after_made j a).coherent;
      low = λ a. (copy_after_made j a).low a (partition.named a);
    }

    -- worker j's update is taken into account a's bucket
    abbrev takes : ℕ → ℕ → Bool
    takes j a = splits a and due (leaf c a) (leaf_body c a) j (slots j)

    takes_same : (j a e : ℕ) → leaf c e ≡ leaf c a → takes j e ≡ takes j a
    takes_same j a e q =
        ap (λ (x : Name). splits e and due x (body c x) j (slots j)) q
        ∙ ap (λ (b : Bool). b and due (leaf c a) (leaf_body c a) j (slots j)) (splits_same a e q)

    -- what is taken into a bucket is of it
    own_bucket : (j a : ℕ) {u : Update} {tk : ℕ} → slots j ≡ announced u tk → takes j a ≡ true → leaf c (account u) ≡ leaf c a
    own_bucket j a at x = partition.shared a _ (eqb-true _ _ (and_parts _ _ (rw at at (and_parts _ _ x).1)).0)

    copy_after_next : (j a : ℕ) → splits a ≡ true → copy_after (suc j) a ≡ take_slot s (leaf c a) (leaf_body c a) j (slots j) (copy_after j a)
    unfolding resolved take_slots
    copy_after_next j a e = rw (if_true (suc j) 0 e, if_true j 0 e)

    copy_after_idle : (j a : ℕ) → (takes j a ≡ true → ⊥) → copy_after (suc j) a ≡ copy_after j a
    copy_after_idle j a n = go (splits a) refl
      where
        go : (b : Bool) → splits a ≡ b → copy_after (suc j) a ≡ copy_after j a
        go true x = copy_after_next j a x ∙ take_not s (leaf c a) (leaf_body c a) j (slots j) (copy_after j a) (λ d. n (and_true x d))
        go false x = rw (if_false (suc j) 0 x, if_false j 0 x)

    -- ---- the updates, in worker order

    -- the updates of the workers below j have been taken
    abbrev At : ℕ → Type 0
    At j = Linearized s c tasks t (own_leaf (copy_after j)) j

    step_untaken : (j : ℕ) → ((a : ℕ) → takes j a ≡ true → ⊥) → At j → At (suc j)
    step_untaken j n q =
        linearized_same s c tasks (λ a. ap (λ (C : Copy). leaf_of C a) (copy_after_idle j a (n a))) (linearized_later s c tasks q)

    -- worker j's update u is taken
    module _ (j : ℕ) (jn : j < s.workers) (u : Update) (tk : ℕ) (at : slots j ≡ announced u tk) (x : takes j (account u) ≡ true) where
      is_due : due (leaf c (account u)) (leaf_body c (account u)) j (announced u tk) ≡ true
      is_due = rw at at (and_parts _ _ x).1

      slot_current : c.slots j ≡ announced u tk
      slot_current = sym (taken_real s small w wn c tasks i p r here fresh (account u) j jn (and_parts _ _ x).1) ∙ at

      not_settled : SettledSlot c j (c.slots j) → ⊥
      not_settled h =
          due_open s small w wn c tasks i p r here fresh (account u) j (announced u tk) is_due (subst (SettledSlot c j) slot_current h)

      under : UnderWay (tasks j).pc
      under = by_counter (λ (pc : PC). SlotFacts s pc c j (tasks j) → UnderWay pc)
          (λ f. not_settled f.1) (λ f. not_settled f.settled) (λ f. not_settled f.settled) (λ f. not_settled f.settled) (λ f. f)
          (λ pc h f. h) (tasks j).pc (i.own j jn).slot

      ann : Announced s c j (tasks j)
      ann = under_announced s c j (tasks j) (tasks j).pc under (i.own j jn).slot

      slot : announced u tk ≡ announced ann.wanted (tasks j).ticket
      slot = sym slot_current ∙ ann.slot

      ticket : tk ≡ (tasks j).ticket
      ticket = cc slot

      update_unsettled : UnsettledUpdate s c tasks j
      update_unsettled = record {
        below = jn;
        under = under;
        wanted = u;
        asks = let z : ann.wanted ≡ u = cc slot in ann.asks ∙ ap (λ (v : Update). Some (update v)) z;
        unsettled = rw (← ticket) (not-true _ (and_parts _ _ is_due).1);
      }

      step_taken : At j → At (suc j)
      unfolding take_slot update_unsettled
      step_taken q =
          linearized_same s c tasks (λ a. ap (λ (C : Copy). leaf_of C a) (next a))
          (taking s small c tasks t partition (copy_after j) (copy_after_ok j) j update_unsettled q)
        where
          C : Copy
          C = take_update s j u (tasks j).ticket (copy_after j (account u))

          next : (a : ℕ) → copy_after (suc j) a ≡ replace_copy c (account u) C (copy_after j) a
          next a = same_elim (λ (D : Copy). copy_after (suc j) a ≡ D) (leaf c a) (leaf c (account u)) C (copy_after j a)
              (λ q. (copy_after_ok (suc j)).one (account u) a q ∙ copy_after_next j (account u) (and_parts _ _ x).0
              ∙ rw (at, ← ticket) (if_true _ _ is_due))
              (λ n. copy_after_idle j a (λ y. n (sym (own_bucket j a at y))))

    step : (j : ℕ) → j < s.workers → (o : Slot) → slots j ≡ o → At j → At (suc j)
    step j jn empty at q = step_untaken j (λ a x. no_both (and_parts _ _ x).1 (rw at refl)) q
    step j jn (announced u tk) at q = go (takes j (account u)) refl
      where
        go : (b : Bool) → takes j (account u) ≡ b → At (suc j)
        go true x = step_taken j jn u tk at x q
        go false x = step_untaken j (λ a y. no_both (takes_same j a (account u) (own_bucket j a at y) ∙ y) x) q

    first_leaf : (a : ℕ) → leaf_of (resolved s (leaf c a) (leaf_body c a) slots 0) a ≡ made (leaf c a) (leaf_body c a)
    unfolding resolved take_slots
    first_leaf a =
        leaf_replaced (leaf c a) _ (uniform (leaf c a).depth) a (omega arith) (omega (arith, partition.bound a))
        ∙ if_eq _ _ _ _ (partition.named a)

    stages : (j : ℕ) → j ≤ s.workers → At j
    stages zero l = linearized_same s c tasks (λ a. rw (if_same {A = ℕ} (splits a) 0) (first_leaf a)) (linearized_none s c tasks t parts)
    stages (suc j) l = step j (omega arith) (slots j) refl (stages j (omega arith))

    -- the cells after the swap hold what it has made
    holds :
        (a : ℕ) → (leaf c' a ≡ name_of (own_leaf (copy_after s.workers) a))
        × (leaf_body c' a ≡ made_body (own_leaf (copy_after s.workers) a))
    unfolding when◌then◌else◌
    holds a = go (works a)
      where
        go :
            KeptOrResolved s c k a → (leaf c' a ≡ name_of (own_leaf (copy_after s.workers) a))
            × (leaf_body c' a ≡ made_body (own_leaf (copy_after s.workers) a))
        go (inl z) = rw (ap is_made z, first_leaf a) (leaf_old s small w wn c tasks i p r here fresh a z)
        go (inr z) = rw (resolved_splits a z) (leaf_new s small w wn c tasks i p r here fresh a z)

    -- ---- the whole swap

    updates : At s.workers
    updates = stages s.workers (omega arith)

    -- a worker whose update is not carried out has had what it had, or is a lookup that takes effect
    lookup_or_same :
        (j : ℕ) → j < s.workers → (Member j updates.effects → ⊥) → LookupEffect s c c' tasks t j
        ⊎ (status c' j (tasks j) ≡ status c j (tasks j))
    lookup_or_same j jn n = by_counter
        (λ (pc : PC). (tasks j).pc ≡ pc → LookupEffect s c c' tasks t j ⊎ (status_at pc c' j (tasks j) ≡ status_at pc c j (tasks j)))
        (λ z. inr refl) (λ z. inr refl) (λ z. inr refl) looks (λ z. inr refl)
        (λ pc u z. inr (linearized_others s c tasks updates c' (λ a. (holds a).1) j pc u n)) (tasks j).pc refl
      where
        looks : (tasks j).pc ≡ look₂ → LookupEffect s c c' tasks t j ⊎ (lookup_status c' (tasks j) ≡ lookup_status c (tasks j))
        looks z =
            let same : own c' (tasks j) ≡ own c (tasks j) = own_same s small w wn c tasks i p r here fresh j jn (rw z tt) in
            let hold : Hold s c j (tasks j) = subst (λ (pc : PC). ReadFacts s pc c j (tasks j)) z (i.own j jn).read in
            let look : Looking s c j (tasks j) = subst (λ (pc : PC). SlotFacts s pc c j (tasks j)) z (i.own j jn).slot in
            let evolved : LeafEvolves s c c' (target (tasks j)) = (buckets_changed s small w wn c tasks i p r here fresh).evolves
            (target (tasks j)) in
            elim (looked-up s c c' t parts j (tasks j) evolved same hold) [
              | inl x ↦ inr x
              | inr x ↦ inl (record { asked = look.wanted; asks = look.asks; unanswered = rw z x.0; answered = rw z x.1 })
            ]

    pub explained_redirect : ExplainedStep s w c tasks t (redirected_cells c (tasks w)) (goes (tasks w) (after_d p r) (tasks w).reads) None
    explained_redirect = explained_goes s w (after_d p r) k.reads (rw here tt) (under_after_d p r)
        (explained_change s c c' tasks t updates.effects lookup_or_same (record {
          effects = updates.effects;
          keeps = λ j m. m;
          distinct = updates.distinct;
          waiting = λ j m. unsettled_status s c tasks (updates.unsettled j m);
          parts = linearized_parts s c tasks updates c' (λ a. (holds a).1) (λ a. (holds a).0);
          gained = linearized_gained s c tasks updates c' (λ a. (holds a).1);
          others = λ j l. absurd (omega arith);
        }))
