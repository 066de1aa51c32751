-- Every step but the two successful swaps, explained by the plain table: no bucket's body changes, and at most the worker's own operation
-- takes effect. Rests on the invariant, on what a check says, and on the laws of serving.
use Prim.Native.Nat.{ℕ, ◌≤◌, ◌<◌}
use native.Mathlib.Omega.{arith}
use native.Mathlib.Decide.{ℕ_discrete}
use mathlib.Core.Path.{◌≡◌, refl, ap, sym, ◌∙◌, subst}
use mathlib.Core.Logic.{◌≢◌, inl, inr, by_cases}
use mathlib.Core.Bool.{Bool, true, false}
use mathlib.Core.List.{[], ◌∷◌}
use Rattle.std.specs.Prelude.{Option, Some, None}
use borrow.Author.Tests.{le-leb, lt-leb}
use Rattle.interface.specs.declared.Settings.{Settings}
use Rattle.interface.specs.declared.Answer.{Answer}
use Rattle.machine.specs.Choice.{when◌then◌else◌, assign}
use Rattle.machine.specs.Sequential.{Table, Update, Operation, update, lookup, first_bits, find, having, looked}
use Rattle.machine.specs.Records.{Name, same, Settled, bucket_of, announced, Cells, Reads}
use Rattle.machine.specs.BucketPass.{checked}
use Rattle.machine.specs.Steps.{with_directory, assign_slot, assign_bucket, assign_toggle}
use Rattle.machine.specs.History.{Member, serve_if}
use Rattle.machine.proofs.laws.Base.{if_true, if_false, if_eq, if_ne, assign_at, assign_other}
use Rattle.machine.proofs.laws.Cells.{same_true, eq_same, bucket_elim}
use Rattle.machine.proofs.laws.Tables.{find_having_in}
use Rattle.machine.specs.Counter.{Two, one, two, read_s, PC, announce, look₁, look₂, read_d, flip, check_s, in_b}
use Rattle.machine.proofs.invariant.Counter.{after_c, UnderWay, by_counter}
use Rattle.machine.specs.Tasks.{Task, about, target, leaf, held}
use Rattle.machine.proofs.invariant.Inv.{body, leaf_body, SettledIn, Own, Pair, Inv, HeldOrSuperseded}
use Rattle.machine.proofs.invariant.Preservation.{goes}
use Rattle.machine.proofs.invariant.Transitions.{ended_task, flipped_cells}
use Rattle.machine.proofs.steps.BucketSteps.{check_settled, unanswered_ok}
use Rattle.machine.proofs.moments.Explain.{Parts, status_at, status, outcome, serve_all, answers_of, reply_to, ExplainedStep}
use Rattle.machine.proofs.laws.Serving.{serve_if_lookup}
use Rattle.machine.proofs.moments.Statuses.{entry_status, status_entry}

-- ---- the status of an operation

-- an announced update that has had its moment, and one that has not
entry_settled : (t : ℕ) (e : Settled) → t ≤ e.ticket → entry_status t e ≡ Some e.answer
entry_settled t e l = if_true _ None (le-leb t _ l)

entry_unsettled : (t : ℕ) (e : Settled) → e.ticket < t → entry_status t e ≡ None
entry_unsettled t e l = if_false _ None (lt-leb t _ l)

-- what holds of the outcome for the step's worker, and of the statuses of the others, holds of each outcome
outcome_elim :
    (P : ℕ → Option Answer → Type 0) (w : ℕ) (c : Cells) (tasks : ℕ → Task) (k : Task) (reply : Option Answer)
    → P w (outcome reply c w k) → ((j : ℕ) → j ≢ w → P j (status c j (tasks j)))
    → (j : ℕ) → P j (outcome (reply_to w reply j) c j (assign tasks w k j))
outcome_elim P w c tasks k reply me others j = by_cases (ℕ_discrete j w)
    (λ e. rw (if_eq j w reply None e, assign_at tasks w k j e, e) me)
    (λ n. rw (if_ne j w reply None n, assign_other tasks w k j n) (others j n))

-- ---- cells that differ in slots and toggles at most

record SameBuckets (c c' : Cells) : Type 0 where
  directory : c'.directory ≡ c.directory
  bodies : (x : Name) → body c' x ≡ body c x

same_buckets_refl : (c : Cells) → SameBuckets c c
same_buckets_refl c = record { directory = refl; bodies = λ x. refl }

module _ (c c' : Cells) (h : SameBuckets c c') where
  leaf_same_buckets : (a : ℕ) → leaf c' a ≡ leaf c a
  leaf_same_buckets a = ap (λ d. bucket_of d.value a) h.directory

  leaf_body_same_buckets : (a : ℕ) → leaf_body c' a ≡ leaf_body c a
  leaf_body_same_buckets a = ap (body c') (leaf_same_buckets a) ∙ h.bodies (leaf c a)

  parts_same_buckets : (t : Table) → Parts c t → Parts c' t
  parts_same_buckets t p = record {
    ascending = p.ascending;
    part = λ a. ap (λ b. b.items) (leaf_body_same_buckets a) ∙ p.part a
        ∙ ap (λ x. having x.depth (first_bits x.depth a) t) (sym (leaf_same_buckets a));
  }

  status_same_buckets : (j : ℕ) (k : Task) (pc : PC) → status_at pc c' j k ≡ status_at pc c j k
  status_same_buckets j k = by_counter (λ pc. status_at pc c' j k ≡ status_at pc c j k) refl refl refl
      (λ i. when same (held k) (leaf_same_buckets (target k) i) then None else Some (looked (find (h.bodies (held k) i).items (target k))))
      refl
      (λ pc u. status_entry c' j k pc u ∙ ap (λ b. entry_status k.ticket (b.settled j)) (leaf_body_same_buckets (target k))
      ∙ sym (status_entry c j k pc u))

-- ---- the steps of worker w

module _ (s : Settings) (w : ℕ) (wn : w < s.workers) (c : Cells) (tasks : ℕ → Task) (i : Inv s c tasks) (t : Table)
    (parts : Parts c t) where
  -- its step to cells c' and task k, with the answer a
  abbrev To : Cells → Task → Option Answer → Type 0
  To = ExplainedStep s w c tasks t

  status-at : {pc : PC} → (tasks w).pc ≡ pc → status c w (tasks w) ≡ status_at pc c w (tasks w)
  status-at at = ap (λ pc. status_at pc c w (tasks w)) at

  entry_at :
      {pc : PC} → (tasks w).pc ≡ pc → UnderWay pc
      → status c w (tasks w) ≡ entry_status (tasks w).ticket ((leaf_body c (target (tasks w))).settled w)
  entry_at {pc} at u = status-at at ∙ status_entry c w (tasks w) pc u

  task_at : {pc : PC} → (tasks w).pc ≡ pc → tasks w ≡ goes (tasks w) pc (tasks w).reads
  task_at at = ap (λ pc. goes (tasks w) pc (tasks w).reads) at

  own_at : {pc : PC} → (tasks w).pc ≡ pc → Own s c w (goes (tasks w) pc (tasks w).reads)
  own_at at = subst (Own s c w) (task_at at) (i.own w wn)

  -- nothing takes effect
  no_effect_step :
      (c' : Cells) → SameBuckets c c' → (k : Task) (reply : Option Answer) → outcome reply c' w k ≡ status c w (tasks w) → To c' k reply
  unfolding serve_all answers_of
  no_effect_step c' h k reply e = record {
    effects = [];
    distinct = tt;
    waiting = λ j m. absurd m;
    parts = parts_same_buckets c c' h t parts;
    gained = λ j r m. absurd m;
    others = λ j jn m. outcome_elim (λ j o. o ≡ status c j (tasks j)) w c' tasks k reply
        e (λ j n. status_same_buckets c c' h j (tasks j) (tasks j).pc) j;
  }

  -- the worker's operation takes effect and is answered; it leaves the table as it is
  served_step :
      (k : Task) (r : Answer) (o : Operation) → (tasks w).operation ≡ Some o → status c w (tasks w) ≡ None → serve_if s (Some o) t ≡ (r, t)
      → To c k (Some r)
  unfolding serve_all answers_of
  served_step k r o asks none_before e = record {
    effects = w ∷ [];
    distinct = (λ m. m, tt);
    waiting = λ j m. rw (only m) (wn, none_before, (o, asks));
    parts = subst (Parts c) (sym (ap (λ x. x.1) answer)) parts;
    gained = λ j r' m. outcome_elim (λ j o. j ≡ w → o ≡ Some r') w c tasks k (Some r)
        (λ g. ap Some (sym (ap (λ x. x.1) (only m) ∙ ap (λ x. x.0) answer))) (λ j n g. absurd (n g)) j (ap (λ x. x.0) (only m));
    others = λ j jn m. outcome_elim (λ j o. j ≢ w → o ≡ status c j (tasks j)) w c tasks k (Some r)
        (λ n. absurd (n refl)) (λ j n g. refl) j (λ g. m (inl g));
  }
    where
      answer : serve_if s (tasks w).operation t ≡ (r, t)
      answer = rw asks e

      only : {A : Type 0} {x y : A} → Member x (y ∷ []) → x ≡ y
      only (inl g) = g
      only (inr m) = elim m [ ]

  -- ---- steps without an answer

  -- only the worker's task changes
  pub explained_no_effect : (k : Task) → status c w k ≡ status c w (tasks w) → To c k None
  explained_no_effect k e = no_effect_step c (same_buckets_refl c) k None e

  pub explained_under_way : (pc pc' : PC) (r : Reads) → (tasks w).pc ≡ pc → UnderWay pc → UnderWay pc' → To c (goes (tasks w) pc' r) None
  explained_under_way pc pc' r at u u' =
      explained_no_effect (goes (tasks w) pc' r) (status_entry c w (goes (tasks w) pc' r) pc' u' ∙ sym (entry_at at u))

  -- a check without an answer; the last one always has one
  pub explained_pass :
      (p x : Two) → (tasks w).pc ≡ check_s p x → checked w (tasks w).ticket (body c (held (tasks w))) ≡ None
      → To c (goes (tasks w) (after_c p x) (tasks w).reads) None
  explained_pass p x at e =
      let pair = subst (λ k. Pair s w c k k) (task_at at) (i.pair w w wn wn) in
      explained_under_way (check_s p x) (after_c p x) (tasks w).reads at tt
      (go p x ((unanswered_ok s w c (tasks w) p x e).own (own_at at) pair))
    where
      go : (p x : Two) → Own s c w (goes (tasks w) (after_c p x) (tasks w).reads) → UnderWay (after_c p x)
      go p one o = tt
      go one two o = tt
      go two two o = absurd o.slot

  -- a lookup reads the directory: the bucket it then holds is its account's
  pub explained_look : (tasks w).pc ≡ look₁ → To c (goes (tasks w) look₂ (with_directory (tasks w).reads c.directory)) None
  unfolding with_directory
  explained_look at = explained_no_effect (goes (tasks w) look₂ (with_directory (tasks w).reads c.directory))
      (if_true None _ (eq_same (leaf c (target (tasks w))) _ refl) ∙ sym (status-at at))

  -- an update is announced: its ticket is newer than any that is settled
  pub explained_announce :
      (u : Update) → (tasks w).pc ≡ announce → (tasks w).operation ≡ Some (update u)
      → To (assign_slot c w (announced u (tasks w).ticket)) (goes (tasks w) (read_d one) (tasks w).reads) None
  unfolding assign_slot
  explained_announce u at asks =
      no_effect_step told alike (goes (tasks w) (read_d one) (tasks w).reads) None
      (status_same_buckets c told alike w (tasks w) (read_d one) ∙ status_entry c w (tasks w) (read_d one) tt
      ∙ entry_unsettled _ _ newer ∙ sym (status-at at))
    where
      told : Cells
      told = assign_slot c w (announced u (tasks w).ticket)

      newer : ((leaf_body c (target (tasks w))).settled w).ticket < (tasks w).ticket
      newer = omega (arith, i.tickets (target (tasks w)) w, (own_at at).slot.newer)

      alike : SameBuckets c told
      alike = record { directory = refl; bodies = λ x. refl }

  pub explained_flip :
      (p : Two) → (tasks w).pc ≡ flip p → To (flipped_cells w c (tasks w)) (goes (tasks w) (in_b p one read_s) (tasks w).reads) None
  unfolding assign_toggle assign_bucket
  explained_flip p at = no_effect_step flipped alike (goes (tasks w) (in_b p one read_s) (tasks w).reads) None
      (status_same_buckets c flipped alike w (tasks w) (in_b p one read_s) ∙ sym (status-at at))
    where
      flipped : Cells
      flipped = flipped_cells w c (tasks w)

      alike : SameBuckets c flipped
      alike = record {
        directory = refl;
        bodies = λ x. bucket_elim (λ b. b.state.value.body ≡ body c x) c (held (tasks w)) _ x (λ e. ap (body c) (sym e)) (λ e. refl);
      }

  -- ---- steps with an answer

  -- Where the bucket held is the account's, the lookup takes effect now. Where it is not, the lookup has had this answer.
  pub explained_find :
      (tasks w).pc ≡ look₂ → To c (ended_task (tasks w) (tasks w).reads)
      (Some (looked (find (body c (held (tasks w))).items (target (tasks w)))))
  explained_find at = go (same x (leaf c a)) refl
    where
      a : ℕ
      a = target (tasks w)

      x : Name
      x = held (tasks w)

      wanted : ℕ
      wanted = (own_at at).slot.wanted

      asks : (tasks w).operation ≡ Some (lookup wanted)
      asks = (own_at at).slot.asks

      found : x ≡ leaf c a → find (body c x).items a ≡ find t wanted
      found e =
          ap (λ y. find (body c y).items a) e ∙ ap (λ l. find l a) (parts.part a) ∙ find_having_in (leaf c a).depth _ t a refl
          ∙ ap (λ o. find t (about o)) asks

      go : (b : Bool) → same x (leaf c a) ≡ b → To c (ended_task (tasks w) (tasks w).reads) (Some (looked (find (body c x).items a)))
      go true e = served_step _ _ (lookup wanted) asks (status-at at ∙ if_true None _ e)
          (serve_if_lookup s wanted t ∙ ap (λ v. (looked v, t)) (sym (found (same_true _ _ e))))
      go false e = no_effect_step c (same_buckets_refl c) _ _ (sym (status-at at ∙ if_false None _ e))

  -- What is settled at the bucket held is settled at the account's: the update has had this answer.
  pub explained_answer :
      (p x : Two) (r : Answer) → (tasks w).pc ≡ check_s p x
      → checked w (tasks w).ticket (body c (held (tasks w))) ≡ Some r
      → To c (ended_task (tasks w) (tasks w).reads) (Some r)
  explained_answer p x r at e =
      let v = check_settled w k.ticket (body c (held k)) r e in
      no_effect_step c (same_buckets_refl c) _ (Some r)
      (sym (entry_at at tt ∙ ap (entry_status k.ticket) (entry (own_at at).read.0.is v.0) ∙ entry_settled _ _ v.0
      ∙ ap Some (sym v.1)))
    where
      k : Task
      k = goes (tasks w) (check_s p x) (tasks w).reads

      entry :
          HeldOrSuperseded s c w k → SettledIn w k.ticket (body c (held k))
          → (leaf_body c (target k)).settled w ≡ (body c (held k)).settled w
      entry (inl n) l = ap (λ y. (body c y).settled w) (sym n)
      entry (inr g) l = g.settled l
