-- What a swap means to the plain table, update by update: the buckets, by account, of a machine in which some announced updates have been
-- carried out, against the plain table after them. Rests on the laws of serving and on the invariant.
use Prim.Native.Nat.{ℕ, ◌≤◌, ◌<◌, suc}
use native.Mathlib.Omega.{arith}
use mathlib.Core.Path.{◌≡◌, refl, ap, sym, ◌∙◌, subst, fun_ext}
use mathlib.Core.Logic.{◌≢◌, ◌⊎◌, inl, inr, ⊎_elim}
use mathlib.Core.Bool.{Bool, false}
use mathlib.Core.List.{List, [], ◌∷◌, ◌++◌}
use Rattle.std.specs.Prelude.{Option, Some, None}
use lib.Dec.{eqb, leb}
use borrow.Author.Tests.{le-leb}
use Rattle.interface.specs.declared.Settings.{Settings}
use Rattle.interface.specs.declared.Answer.{Answer}
use Rattle.machine.specs.Choice.{when◌then◌else◌, assign}
use Rattle.machine.specs.Sequential.{Table, Update, account, update, first_bits, having, tried, Ascending}
use Rattle.machine.specs.Records.{Name, Settled, Cells, Reads, Leaf, made}
use Rattle.machine.specs.BucketPass.{full, holds_back, settled_at, carry_out}
use Rattle.machine.specs.DirectoryPass.{name_of}
use Rattle.machine.specs.History.{Member, Distinct, serve_if}
use Rattle.machine.proofs.laws.Base.{if_true, if_false, if_same, assign_elim}
use Rattle.machine.proofs.laws.Cells.{same_elim}
use Rattle.machine.proofs.laws.Copies.{InBucket, Partition}
use Rattle.machine.proofs.laws.Tables.{full_same, ascending_tried, tried_other}
use Rattle.machine.specs.Counter.{PC, read_d, flip, check_d, check_s, in_b, in_d}
use Rattle.machine.proofs.invariant.Counter.{UnderWay}
use Rattle.machine.specs.Tasks.{Task, target, leaf}
use Rattle.machine.proofs.invariant.Inv.{leaf_body}
use Rattle.machine.proofs.invariant.Preservation.{goes}
use Rattle.machine.proofs.laws.Splitting.{made_body, carry_other}
use Rattle.machine.proofs.moments.Explain.{Parts, status_at, status, outcome, serve_all, answers_of, Unserved, Explained, reply_to, ExplainedStep}
use Rattle.machine.proofs.laws.Serving.{member_left, member_last, member_snoc, distinct_snoc, serve_all_snoc, answers_snoc, answers_member, serve_if_update, room_for, carried_part, carried_answer}

-- ---- an announced update

-- what an update with ticket t has had, by its worker's entry in its bucket
abbrev pub entry_status : ℕ → Settled → Option Answer
entry_status t e = when leb t e.ticket then Some e.answer else None

pub status_entry :
    (c : Cells) (j : ℕ) (k : Task) (pc : PC) → UnderWay pc → status_at pc c j k ≡ entry_status k.ticket ((leaf_body c (target k)).settled j)
unfolding settled_at
status_entry c j k (read_d p) u = refl
status_entry c j k (flip p) u = refl
status_entry c j k (check_d p x) u = refl
status_entry c j k (check_s p x) u = refl
status_entry c j k (in_b p r x) u = refl
status_entry c j k (in_d p r x) u = refl
status_entry c j k _ u = elim u [ ]

-- a worker that then goes from one step of its update to another, unanswered, has had what it had
pub explained_goes :
    (s : Settings) (w : ℕ) {c c' : Cells} {tasks : ℕ → Task} {t : Table} (pc : PC) (r : Reads) → UnderWay (tasks w).pc → UnderWay pc
    → Explained s c c' tasks tasks (λ j. None) t → ExplainedStep s w c tasks t c' (goes (tasks w) pc r) None
explained_goes s w {c} {c'} {tasks} pc r u v x = record {
  effects = x.effects;
  distinct = x.distinct;
  waiting = x.waiting;
  parts = x.parts;
  gained = λ j a m. stays j ∙ x.gained j a m;
  others = λ j jn n. stays j ∙ x.others j jn n;
}
  where
    k : Task
    k = goes (tasks w) pc r

    stays : (j : ℕ) → outcome (reply_to w None j) c' j (assign tasks w k j) ≡ status c' j (tasks j)
    stays j =
        ap (λ o. outcome o c' j (assign tasks w k j)) (if_same (eqb j w) None)
        ∙ assign_elim (λ q. status c' j q ≡ status c' j (tasks j)) tasks w k j
        (λ e. status_entry c' j k pc v ∙ sym (status_entry c' j (tasks w) (tasks w).pc u) ∙ ap (λ i. status c' j (tasks i)) (sym e))
        (λ e. refl)

-- ---- buckets by account

by_name : {P : Type 0} (x y : Name) → (x ≡ y → P) → (x ≢ y → P) → P
by_name {P} x y h k = same_elim (λ (v : Unit {0}). P) x y tt tt h k

-- account a's leaf l holds its part of the table t
abbrev pub PartAt : ℕ → Leaf → Table → Type 0
PartAt a l t = (made_body l).items ≡ having (name_of l).depth (first_bits (name_of l).depth a) t

module _ (s : Settings) (c : Cells) (tasks : ℕ → Task) where
  -- worker j's announced update is not settled in its account's bucket
  pub record UnsettledUpdate (j : ℕ) : Type 0 where
    pub below : j < s.workers
    pub under : UnderWay (tasks j).pc
    pub wanted : Update
    pub asks : (tasks j).operation ≡ Some (update wanted)
    pub unsettled : settled_at (leaf_body c (account wanted)) j (tasks j).ticket ≡ false

  pub unsettled_status : {j : ℕ} → UnsettledUpdate j → Unserved s c tasks j
  unfolding settled_at
  unsettled_status {j} h = (
    h.below,
    status_entry c j (tasks j) (tasks j).pc h.under ∙ rw h.asks (if_false (Some _) None h.unsettled),
    (update h.wanted, h.asks),
  )

  -- From cells c with the plain table t, the updates of some workers below j have been carried out: account a's leaf is then F a.
  pub record Linearized (t : Table) (F : ℕ → Leaf) (j : ℕ) : Type 0 where
    -- these workers, in their order
    pub effects : List ℕ
    pub below : (i : ℕ) → Member i effects → i < j
    pub distinct : Distinct effects
    pub unsettled : (i : ℕ) → Member i effects → UnsettledUpdate i
    pub ascending : Ascending (serve_all s tasks t effects)
    pub part : (a : ℕ) → PartAt a (F a) (serve_all s tasks t effects)
    -- their entries are the plain table's answers, and the others' entries are as they were
    pub gained :
        (i : ℕ) (r : Answer) → Member (i, r) (answers_of s tasks t effects)
        → (made_body (F (target (tasks i)))).settled i ≡ record { ticket = (tasks i).ticket; answer = r }
    pub others : (i a : ℕ) → (Member i effects → ⊥) → (made_body (F a)).settled i ≡ (leaf_body c a).settled i

  -- nothing carried out
  pub linearized_none : (t : Table) → Parts c t → Linearized t (λ a. made (leaf c a) (leaf_body c a)) 0
  unfolding serve_all answers_of
  linearized_none t p = record {
    effects = [];
    below = λ j m. absurd m;
    distinct = tt;
    unsettled = λ j m. absurd m;
    ascending = p.ascending;
    part = p.part;
    gained = λ i r m. absurd m;
    others = λ i a n. refl;
  }

  pub linearized_same : {t : Table} {F G : ℕ → Leaf} {j : ℕ} → ((a : ℕ) → G a ≡ F a) → Linearized t F j → Linearized t G j
  linearized_same {t} {j = j} e = subst (λ (f : ℕ → Leaf). Linearized t f j) (fun_ext (λ a. sym (e a)))

  -- buckets split, with the entries of what they were: each account's part of the table stays its part
  pub linearized_split :
      {t : Table} {F G : ℕ → Leaf} {i j : ℕ} → i ≤ j → ((a : ℕ) (v : Table) → PartAt a (F a) v → PartAt a (G a) v)
      → ((a : ℕ) → (made_body (G a)).settled ≡ (made_body (F a)).settled) → Linearized t F i → Linearized t G j
  linearized_split {t} l p e h = record {
    effects = h.effects;
    below = λ i m. omega (arith, h.below i m);
    distinct = h.distinct;
    unsettled = h.unsettled;
    ascending = h.ascending;
    part = λ a. p a (serve_all s tasks t h.effects) (h.part a);
    gained = λ i r m. rw (e (target (tasks i))) (h.gained i r m);
    others = λ i a n. rw (e a) (h.others i a n);
  }

  pub linearized_later : {t : Table} {F : ℕ → Leaf} {j : ℕ} → Linearized t F j → Linearized t F (suc j)
  linearized_later = linearized_split (omega arith) (λ a v h. h) (λ a. refl)

  -- worker j's update is carried out too, in its account's bucket, which does not hold it back
  pub linearized_carry :
      {t : Table} {F G : ℕ → Leaf} {j : ℕ} → s.depth ≤ 32 → Partition s.depth (λ a. name_of (F a)) → (h : UnsettledUpdate j)
      → holds_back s (name_of (F (account h.wanted))).depth (made_body (F (account h.wanted))) ≡ false
      → ((a : ℕ) → name_of (G a) ≡ name_of (F a))
      → ((a : ℕ) → name_of (F a) ≡ name_of (F (account h.wanted)) → made_body (G a)
      ≡ carry_out s j h.wanted (tasks j).ticket (made_body (F a)))
      → ((a : ℕ) → name_of (F a) ≢ name_of (F (account h.wanted)) → made_body (G a) ≡ made_body (F a))
      → Linearized t F j → Linearized t G (suc j)
  linearized_carry {t} {F} {G} {j} small g h room same inside outside d = record {
    effects = js ++ j ∷ [];
    below = λ i m. ⊎_elim (λ x. omega (arith, d.below i x)) (λ e. omega arith) (member_snoc i j js m);
    distinct = distinct_snoc js j d.distinct new;
    unsettled = λ i m. ⊎_elim (d.unsettled i) (λ e. rw e h) (member_snoc i j js m);
    ascending = rw after (ascending_tried no_room u now d.ascending);
    part = λ a. rw (after, same a) (by_name (names a) (names (account u)) (part_in a) (part_out a));
    gained = λ i r m. answered i r (answers_snoc s tasks t js j i r m);
    others = λ i a n. keeps i a (λ e. n (rw e (member_last j js))) ∙ d.others i a (λ m. n (member_left i j js m));
  }
    where
      u : Update
      u = h.wanted

      js : List ℕ
      js = d.effects

      new : Member j js → ⊥
      new m = omega (arith, d.below j m)

      names : ℕ → Name
      names a = name_of (F a)

      now : Table
      now = serve_all s tasks t js

      no_room : Bool
      no_room = full s (made_body (F (account u)))

      served : serve_if s (tasks j).operation now ≡ tried no_room u now
      served = rw h.asks (serve_if_update s u now ∙ ap (λ (b : Bool). tried b u now)
          (room_for u now (names (account u)).depth (made_body (F (account u))) (d.part (account u)) s small (g.bound (account u)) room))

      after : serve_all s tasks t (js ++ j ∷ []) ≡ (tried no_room u now).1
      after = serve_all_snoc s tasks t js j ∙ ap (λ z. z.1) served

      Part : ℕ → Type 0
      Part a = (made_body (G a)).items ≡ having (names a).depth (first_bits (names a).depth a) (tried no_room u now).1

      part_in : (a : ℕ) → names a ≡ names (account u) → Part a
      part_in a e =
          let q : first_bits (names a).depth a ≡ first_bits (names a).depth (account u) =
          g.named a ∙ sym (subst (λ x. InBucket x (account u)) (sym e) (g.named (account u))) in
          let p : (made_body (F a)).items ≡ having (names a).depth (first_bits (names a).depth (account u)) now = rw q at (d.part a) in
          let y : full s (made_body (F a)) ≡ no_room = full_same s (made_body (F a)) (made_body (F (account u)))
          (p ∙ ap (λ (x : Name). having x.depth (first_bits x.depth (account u)) now) e ∙ sym (d.part (account u))) in
          rw (inside a e, q) (carried_part u now (names a).depth (made_body (F a)) p s j (tasks j).ticket d.ascending
          ∙ ap (λ (b : Bool). having (names a).depth (first_bits (names a).depth (account u)) (tried b u now).1) y)

      part_out : (a : ℕ) → names a ≢ names (account u) → Part a
      part_out a n =
          rw (outside a n) (d.part a ∙ sym (tried_other (names a).depth (first_bits (names a).depth a) no_room u now d.ascending
          (λ q. n (sym (g.shared a (account u) (sym q ∙ g.named a))))))

      keeps : (i a : ℕ) → i ≢ j → (made_body (G a)).settled i ≡ (made_body (F a)).settled i
      keeps i a n = by_name (names a) (names (account u))
          (λ e. ap (λ b. b.settled i) (inside a e) ∙ carry_other s j u (tasks j).ticket (made_body (F a)) i n)
          (λ e. ap (λ b. b.settled i) (outside a e))

      answered :
          (i : ℕ) (r : Answer) → Member (i, r) (answers_of s tasks t js) ⊎ ((i ≡ j) × (r ≡ (serve_if s (tasks j).operation now).0))
          → (made_body (G (target (tasks i)))).settled i ≡ record { ticket = (tasks i).ticket; answer = r }
      answered i r (inl m) = keeps i (target (tasks i)) (λ e. new (rw e at (answers_member s tasks t js i r m))) ∙ d.gained i r m
      answered i r (inr e) = rw (e.0, e.1, served, h.asks)
          (ap (λ b. b.settled j) (inside (account u) refl)
          ∙ carried_answer u now (names (account u)).depth (made_body (F (account u))) (d.part (account u)) s j (tasks j).ticket
          d.ascending)

  -- ---- cells that have come to hold these buckets

  module _ {t : Table} {F : ℕ → Leaf} {n : ℕ} (d : Linearized t F n) (c' : Cells) (holds : (a : ℕ) → leaf_body c' a ≡ made_body (F a)) where
    pub linearized_parts : ((a : ℕ) → leaf c' a ≡ name_of (F a)) → Parts c' (serve_all s tasks t d.effects)
    linearized_parts leaves = record { ascending = d.ascending; part = λ a. ap (λ b. b.items) (holds a) ∙ rw (leaves a) (d.part a) }

    pub linearized_gained : (j : ℕ) (r : Answer) → Member (j, r) (answers_of s tasks t d.effects) → status c' j (tasks j) ≡ Some r
    linearized_gained j r m =
        status_entry c' j (tasks j) (tasks j).pc (d.unsettled j (answers_member s tasks t d.effects j r m)).under
        ∙ rw (holds (target (tasks j)), d.gained j r m) (if_true (Some r) None (le-leb (tasks j).ticket (tasks j).ticket (omega arith)))

    pub linearized_others :
        (j : ℕ) (pc : PC) → UnderWay pc → (Member j d.effects → ⊥) → status_at pc c' j (tasks j) ≡ status_at pc c j (tasks j)
    linearized_others j pc u n =
        status_entry c' j (tasks j) pc u
        ∙ ap (entry_status (tasks j).ticket) (ap (λ b. b.settled j) (holds (target (tasks j))) ∙ d.others j (target (tasks j)) n)
        ∙ sym (status_entry c j (tasks j) pc u)
