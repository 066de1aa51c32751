-- A swap of a bucket's state that succeeds is explained by the plain table: the updates that the round has carried out take effect in it.
-- Rests on whom the swap helps, and on updates carried out one by one.
use Prim.Native.Nat.{ℕ, zero, suc, ◌≤◌, ◌<◌}
use native.Mathlib.Omega.{arith}
use mathlib.Core.Path.{◌≡◌, refl, ap, sym, ◌∙◌, subst}
use mathlib.Core.Logic.{◌≢◌, inl, inr}
use mathlib.Core.Bool.{true, false}
use Rattle.std.specs.Prelude.{Some, None}
use borrow.Author.Tests.{not-true}
use Rattle.interface.specs.declared.Settings.{Settings}
use Rattle.machine.specs.Choice.{when◌then◌else◌}
use Rattle.machine.specs.Sequential.{Table, Update, account, update, find, looked}
use Rattle.machine.specs.Records.{Name, same, Body, State, Slot, empty, announced, Cells, made}
use Rattle.machine.specs.BucketPass.{holds_back, carry_out, pending, help, helped}
use Rattle.machine.specs.Steps.{assign_bucket, assign_state}
use Rattle.machine.proofs.laws.Base.{no_both, if_elim, if_true, and_parts}
use Rattle.machine.proofs.laws.Cells.{eq_same, same_elim}
use Rattle.machine.proofs.laws.Copies.{Partition, partition_of}
use Rattle.machine.specs.Counter.{Two, swap, in_b}
use Rattle.machine.proofs.invariant.Counter.{after_b, by_counter}
use Rattle.machine.proofs.invariant.CounterFacts.{Rounds, under_after_b, rounds_under, rounds_holds}
use Rattle.machine.specs.Tasks.{Task, about, target, leaf, held, own}
use Rattle.machine.proofs.invariant.Inv.{body, leaf_body, Fresh, HeldOrSuperseded, Hold, InRound, ReadFacts, Announced, Inv}
use Rattle.machine.proofs.invariant.Preservation.{goes, under_announced, holds_hold}
use Rattle.machine.proofs.laws.Resolve.{helped_ok}
use Rattle.machine.proofs.invariant.Transitions.{swapped_cells}
use Rattle.machine.proofs.steps.SwapBucket.{called_flip, round_body, swapped_elim, ReadPending, slot_current, in_rounds_here, kept_bucket}
use Rattle.machine.proofs.moments.Explain.{Parts, status_at, lookup_status, ExplainedStep}
use Rattle.machine.proofs.moments.Statuses.{UnsettledUpdate, unsettled_status, linearized_later, explained_goes, Linearized, linearized_none, linearized_same, linearized_carry, linearized_parts, linearized_gained, linearized_others}

-- ---- a round that has got part of the way

-- the body of account a's bucket in cells c, but v where that is bucket x
abbrev body_with : Cells → Name → Body → ℕ → Body
body_with c x v a = when same (leaf c a) x then v else leaf_body c a

with_in : (c : Cells) (x : Name) (v : Body) (a : ℕ) → leaf c a ≡ x → body_with c x v a ≡ v
with_in c x v a e = if_true v (leaf_body c a) (eq_same (leaf c a) x e)

with_out : (c : Cells) (x : Name) (v : Body) (a : ℕ) → leaf c a ≢ x → body_with c x v a ≡ leaf_body c a
with_out c x v a n = same_elim (λ b. b ≡ leaf_body c a) (leaf c a) x v (leaf_body c a) (λ e. absurd (n e)) (λ e. refl)

module _ (s : Settings) (small : s.depth ≤ 32) (w : ℕ) (wn : w < s.workers) (c : Cells) (tasks : ℕ → Task) (i : Inv s c tasks) (p r : Two)
    (here : (tasks w).pc ≡ in_b p r swap) (fresh : Fresh c (tasks w)) (t : Table) (parts : Parts c t) where
  abbrev k : Task
  k = tasks w

  abbrev c' : Cells
  c' = swapped_cells s c k

  abbrev x : Name
  x = held k

  -- the state that was read, which is still there
  abbrev was : State
  was = (own c k).state.value

  -- the round's copy once the workers below j have been helped
  abbrev copy : ℕ → Body
  copy j = helped s x.depth was k.reads.toggle k.reads.slots j

  -- the workers below j have been helped, by which the bucket's body has become v
  abbrev At : Body → ℕ → Type 0
  At v j = Linearized s c tasks t (λ a. made (leaf c a) (body_with c x v a)) j

  partition : Partition s.depth (leaf c)
  partition = partition_of _ i.directory

  -- worker j's update is pending, and the copy does not hold it back
  module _ (j : ℕ) (jn : j < s.workers) (u : Update) (tk : ℕ) (e : k.reads.slots j ≡ announced u tk)
      (h : pending was k.reads.toggle j tk ≡ true) (room : holds_back s x.depth (copy j) ≡ false) where
    seen_pending : ReadPending c k j
    seen_pending = called_flip was k.reads.toggle j (announced u tk) h

    stands : Rounds (tasks j).pc × (held (tasks j) ≡ x)
    stands = in_rounds_here s w wn c tasks i p r here fresh j jn seen_pending

    ann : Announced s c j (tasks j)
    ann = under_announced s c j (tasks j) (tasks j).pc (rounds_under (tasks j).pc stands.0) (i.own j jn).slot

    slot : announced u tk ≡ announced ann.wanted (tasks j).ticket
    slot = sym e ∙ slot_current s w wn c tasks i p r here fresh j jn seen_pending ∙ ann.slot

    ticket : tk ≡ (tasks j).ticket
    ticket = cc slot

    asks : (tasks j).operation ≡ Some (update u)
    asks = let z : ann.wanted ≡ u = cc slot in ann.asks ∙ ap (λ v. Some (update v)) z

    -- where nothing is held back, its bucket is its account's
    own_bucket : leaf c (account u) ≡ x
    own_bucket = go (holds_hold s c j (tasks j) (tasks j).pc (rounds_holds (tasks j).pc stands.0) (i.own j jn).read).is
      where
        go : HeldOrSuperseded s c j (tasks j) → leaf c (account u) ≡ x
        go (inl y) = ap (λ o. leaf c (about o)) (sym asks) ∙ sym y ∙ stands.1
        go (inr y) =
            let f : holds_back s x.depth was.body ≡ true = rw stands.1 at y.blocked in
            absurd (no_both
            (ap (holds_back s x.depth) ((helped_ok s x.depth was k.reads.toggle k.reads.slots j).unchanged f) ∙ f) room)

    update_unsettled : UnsettledUpdate s c tasks j
    unfolding pending
    update_unsettled = record {
      below = jn;
      under = rounds_under (tasks j).pc stands.0;
      wanted = u;
      asks = asks;
      unsettled = rw (own_bucket, ← ticket) (not-true _ (and_parts _ _ h).1);
    }

    carried : At (copy j) j → At (carry_out s j u tk (copy j)) (suc j)
    unfolding update_unsettled
    carried =
        linearized_carry s c tasks small partition update_unsettled
        (rw (with_in c x (copy j) (account u) own_bucket, own_bucket) room) (λ a. refl)
        (λ a y. let z : leaf c a ≡ x = y ∙ own_bucket in
        rw (with_in c x (carry_out s j u tk (copy j)) a z, with_in c x (copy j) a z, ticket))
        (λ a n. let z : leaf c a ≢ x = λ y. n (y ∙ sym own_bucket) in
        rw (with_out c x (carry_out s j u tk (copy j)) a z, with_out c x (copy j) a z))

  worker_step :
      (j : ℕ) → j < s.workers → (y : Slot) → k.reads.slots j ≡ y → At (copy j) j
      → At (help s x.depth was k.reads.toggle j y (copy j)) (suc j)
  unfolding help
  worker_step j jn empty e g = linearized_later s c tasks g
  worker_step j jn (announced u tk) e g = if_elim (λ v. At v (suc j)) _ (carry_out s j u tk (copy j)) (copy j)
      (λ h. let q = and_parts _ _ h in carried j jn u tk e q.0 (not-true _ q.1) g)
      (λ h. linearized_later s c tasks g)

  stages : (j : ℕ) → j ≤ s.workers → At (copy j) j
  unfolding helped
  stages zero l = linearized_same s c tasks
      (λ a. ap (made (leaf c a))
      (same_elim (λ b. b ≡ leaf_body c a) (leaf c a) x was.body (leaf_body c a) (λ e. ap (body c) (sym e)) (λ e. refl)))
      (linearized_none s c tasks t parts)
  stages (suc j) l = worker_step j (omega arith) (k.reads.slots j) refl (stages j (omega arith))

  -- the whole round, from what the worker has read
  last : At (round_body s k) s.workers
  last =
      let mine : InRound s p r swap c w k = subst (λ pc. ReadFacts s pc c w k) here (i.own w wn).read in
      rw (mine.seen.same fresh) (stages s.workers (omega arith))

  -- the cells after the swap hold what it has made
  holds : (a : ℕ) → body c' (leaf c a) ≡ body_with c x (round_body s k) a
  holds a = swapped_elim s c k (λ b. b.state.value.body ≡ body_with c x (round_body s k) a) (leaf c a)
      (λ e. sym (with_in c x (round_body s k) a e)) (λ e. sym (with_out c x (round_body s k) a e))

  -- a lookup that holds its account's bucket still does, and another bucket that is held holds back
  lookup_kept : (j : ℕ) → j < s.workers → Hold s c j (tasks j) → lookup_status c' (tasks j) ≡ lookup_status c (tasks j)
  unfolding assign_state assign_bucket
  lookup_kept j jn h = go h.is
    where
      go : HeldOrSuperseded s c j (tasks j) → lookup_status c' (tasks j) ≡ lookup_status c (tasks j)
      go (inl e) = let z = eq_same (held (tasks j)) (leaf c (target (tasks j))) e in if_true None _ z ∙ sym (if_true None _ z)
      go (inr g) =
          ap (λ b. when same (held (tasks j)) (leaf c (target (tasks j))) then None else Some (looked (find b.items (target (tasks j)))))
          ((kept_bucket s w wn c tasks i p r here fresh j jn).unchanged g.blocked)

  pub explained_swap : ExplainedStep s w c tasks t (swapped_cells s c (tasks w)) (goes (tasks w) (after_b p r) (tasks w).reads) None
  unfolding assign_state assign_bucket
  explained_swap = explained_goes s w (after_b p r) k.reads (rw here tt) (under_after_b p r) (record {
    effects = last.effects;
    distinct = last.distinct;
    waiting = λ j m. unsettled_status s c tasks (last.unsettled j m);
    parts = linearized_parts s c tasks last c' holds (λ a. refl);
    gained = linearized_gained s c tasks last c' holds;
    others = λ j jn n. by_counter (λ pc. ReadFacts s pc c j (tasks j) → status_at pc c' j (tasks j) ≡ status_at pc c j (tasks j))
        (λ f. refl) (λ f. refl) (λ f. refl) (lookup_kept j jn) (λ f. refl)
        (λ pc u f. linearized_others s c tasks last c' holds j pc u n) (tasks j).pc (i.own j jn).read;
  })
