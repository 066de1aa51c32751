-- What a bucket swap does to a bucket's body, and what a round of the directory pass makes of a full bucket: worker by worker.
-- Rests on what taking updates does to the leaves of a working copy.
use Prim.Native.Nat.{ℕ, zero, suc, ◌≤◌, ◌<◌}
use native.Mathlib.Omega.{arith}
use native.Mathlib.Decide.{ℕ_discrete}
use mathlib.Core.Path.{◌≡◌, refl, ap, sym, ◌∙◌, subst}
use mathlib.Core.Logic.{◌⊎◌, inl, inr}
use mathlib.Core.Bool.{Bool, true, false, not}
use borrow.Author.Tests.{eqb-true, not-true, not-false}
use Rattle.interface.specs.declared.Settings.{Settings}
use Rattle.machine.specs.Choice.{◌and◌}
use Rattle.machine.specs.Sequential.{Update, account}
use Rattle.machine.specs.Records.{Name, Settled, Body, State, Leaf, kept, made, Copy, Slot, empty, announced}
use Rattle.machine.specs.BucketPass.{holds_back, splittable, carry_out, pending, help, helped}
use Rattle.machine.specs.DirectoryPass.{leaf_of, name_of, replace_leaf, take_slots}
use Rattle.machine.proofs.laws.Base.{no_both, if_elim, and_parts, and_right, is_false, below_suc}
use Rattle.machine.proofs.laws.Copies.{name_at, Coherent, MadeIn, Refined, name-at, refined_take_slots}
use Rattle.machine.proofs.invariant.Inv.{ticket_of, uniform, resolved}
use Rattle.machine.proofs.laws.Splitting.{unsettled, due_unsettled, carry_own, carry_other, DueChange, LeafChanged, SlotsTaken, resolved_in, start_leaf, taken, served, inside_same}
pub use Rattle.machine.proofs.laws.Copies.{InBucket, depth_at, due}
pub use Rattle.machine.proofs.laws.Splitting.{made_body, body_at, Served}

-- One worker's entry when a bucket's body changes from b to b', x being what was read in the worker's slot: as it was, or settled by
-- the change.
pub data SettledChange (b b' : Body) (x : Slot) (taken : Type 0) (i : ℕ) : Type 0 where
  settled_same : b'.settled i ≡ b.settled i → SettledChange b b' x taken i
  settled_new : taken → (b.settled i).ticket < ticket_of x → (b'.settled i).ticket ≡ ticket_of x → SettledChange b b' x taken i

pub settled_change_le :
    {b b' : Body} {x : Slot} {T : Type 0} {i : ℕ} → SettledChange b b' x T i → (b.settled i).ticket ≤ (b'.settled i).ticket
settled_change_le (settled_same e) = omega (arith, ap (λ (y : Settled). y.ticket) e)
settled_change_le (settled_new t l e) = omega arith

pub settled_change_keep :
    {b b' : Body} {x : Slot} {T : Type 0} {i : ℕ} → SettledChange b b' x T i → ticket_of x ≤ (b.settled i).ticket
    → b'.settled i ≡ b.settled i
settled_change_keep (settled_same e) h = e
settled_change_keep (settled_new t l e) h = absurd (omega arith)

-- the entry stays as it is in a further change
settled_change_on :
    {b b' b'' : Body} {x : Slot} {T T' : Type 0} {i : ℕ} → (T → T') → b''.settled i ≡ b'.settled i → SettledChange b b' x T i
    → SettledChange b b'' x T' i
settled_change_on f e (settled_same h) = settled_same (e ∙ h)
settled_change_on f e (settled_new t l h) = settled_new (f t) l (ap (λ (y : Settled). y.ticket) e ∙ h)

-- ---- a round of the bucket pass

-- worker i's update is pending, by the slot that was read
abbrev pub calls : State → (ℕ → Bool) → ℕ → Slot → Bool
calls x toggle i empty = false
calls x toggle i (announced u t) = pending x toggle i t

-- the copy b of a bucket of depth d once the workers below j have been helped
pub record Helped (s : Settings) (d : ℕ) (x : State) (toggle : ℕ → Bool) (slots : ℕ → Slot) (j : ℕ) (b : Body) : Type 0 where
  pub settled_change : (i : ℕ) → SettledChange x.body b (slots i) ((i < j) × (calls x toggle i (slots i) ≡ true)) i
  pub served : (i : ℕ) → i < j → calls x toggle i (slots i) ≡ true → ((b.settled i).ticket ≡ ticket_of (slots i)) ⊎ (holds_back s d b ≡ true)
  pub unchanged : holds_back s d x.body ≡ true → b ≡ x.body

module _ (s : Settings) (d : ℕ) (x : State) (toggle : ℕ → Bool) (slots : ℕ → Slot) where
  module _ (j : ℕ) (b : Body) (h : Helped s d x toggle slots j b) where
    later : (i : ℕ) → (i < j) × (calls x toggle i (slots i) ≡ true) → (i < suc j) × (calls x toggle i (slots i) ≡ true)
    later i t = (omega (arith, t.0), t.1)

    helped_leave : (calls x toggle j (slots j) ≡ true → holds_back s d b ≡ true) → Helped s d x toggle slots (suc j) b
    helped_leave w = record {
      settled_change = λ i. settled_change_on (later i) refl (h.settled_change i);
      served = below_suc _ j h.served (λ g. inr (w g));
      unchanged = h.unchanged;
    }

    helped_carry :
        (u : Update) (t : ℕ) → slots j ≡ announced u t → pending x toggle j t ≡ true → holds_back s d b ≡ false
        → Helped s d x toggle slots (suc j) (carry_out s j u t b)
    unfolding pending
    helped_carry u t at e f = record {
      settled_change = λ i. settled_change i (ℕ_discrete i j);
      served = below_suc _ j (λ i l g. before i l (h.served i l g)) (λ g. inl (carry_own s j u t b ∙ ap ticket_of (sym at)));
      unchanged = λ g. absurd (no_both (rw (h.unchanged g) g) f);
    }
      where
        settled_change :
            (i : ℕ) → Dec (i ≡ j)
            → SettledChange x.body (carry_out s j u t b) (slots i) ((i < suc j) × (calls x toggle i (slots i) ≡ true)) i
        settled_change i (yes z) =
            rw (z, at) (settled_new (omega arith, e) (unsettled x.body j t (not-true _ (and_parts _ _ e).1)) (carry_own s j u t b))
        settled_change i (no z) = settled_change_on (later i) (carry_other s j u t b i z) (h.settled_change i)

        before :
            (i : ℕ) → i < j → ((b.settled i).ticket ≡ ticket_of (slots i)) ⊎ (holds_back s d b ≡ true)
            → (((carry_out s j u t b).settled i).ticket ≡ ticket_of (slots i)) ⊎ (holds_back s d (carry_out s j u t b) ≡ true)
        before i l (inl z) = inl (ap (λ (y : Settled). y.ticket) (carry_other s j u t b i (λ y. omega arith)) ∙ z)
        before i l (inr z) = absurd (no_both z f)

    helped_suc : (o : Slot) → slots j ≡ o → Helped s d x toggle slots (suc j) (help s d x toggle j o b)
    unfolding help
    helped_suc empty at = helped_leave (λ g. absurd (no_both g (rw at refl)))
    helped_suc (announced u t) at =
        if_elim (Helped s d x toggle slots (suc j)) (pending x toggle j t and not (holds_back s d b)) (carry_out s j u t b) b
        (λ e. helped_carry u t at (and_parts _ _ e).0 (not-true _ (and_parts _ _ e).1))
        (λ e. helped_leave (λ g. not-false _ (and_right _ _ e (rw at at g))))

  pub helped_ok : (j : ℕ) → Helped s d x toggle slots j (helped s d x toggle slots j)
  unfolding helped
  helped_ok zero = record { settled_change = λ i. settled_same refl; served = λ i l. absurd (omega arith); unchanged = λ g. refl }
  helped_ok (suc j) = helped_suc j (helped s d x toggle slots j) (helped_ok j) (slots j) refl

-- ---- a round of the directory pass

-- of bucket x, whose body was b, the copy c is what a round has made once the slots of the workers below j are taken
pub record Made (s : Settings) (x : Name) (b : Body) (slots : ℕ → Slot) (j : ℕ) (c : Copy) : Type 0 where
  pub coherent : Coherent s.depth c
  pub stands : (a : ℕ) → InBucket x a → leaf_of c a ≡ made (name_at (depth_at c a) a) (body_at c a)
  pub low : (a : ℕ) → InBucket x a → x.depth ≤ depth_at c a
  pub settled_change : (a i : ℕ) → InBucket x a → SettledChange b (body_at c a) (slots i) ((i < j) × (due x b i (slots i) ≡ true)) i
  pub served : (i t : ℕ) (u : Update) → i < j → slots i ≡ announced u t → due x b i (slots i) ≡ true → Served i t (leaf_of c (account u))
  pub deep :
      splittable s x.depth b ≡ true
      → (((i : ℕ) → i < j → due x b i (slots i) ≡ false) × ((a : ℕ) → InBucket x a → leaf_of c a ≡ made x b))
      ⊎ ((a : ℕ) → InBucket x a → x.depth < depth_at c a)

made_parts : (x : Name) (l : Leaf) → MadeIn x l → (l ≡ made (name_of l) (made_body l)) × (x.depth ≤ (name_of l).depth)
made_parts x (kept y) m = absurd m
made_parts x (made y b) m = (refl, m)

-- account a₀ is in bucket x, in the coherent copy o
module _ (s : Settings) (room : s.depth ≤ 32) (x : Name) (b : Body) (slots : ℕ → Slot)
    (o : Copy) (h : Coherent s.depth o) (a₀ : ℕ) (there : leaf_of o a₀ ≡ kept x) where
  made_ok : (j : ℕ) → Made s x b slots j (resolved_in s x b slots j o)
  made_ok j = record {
    coherent = r.coherent;
    stands = λ a i. (made_parts x (leaf_of c a) (r.inside a i)).0 ∙ ap (λ (y : Name). made y (body_at c a)) (name-at r.coherent a);
    low = λ a i. (made_parts x (leaf_of c a) (r.inside a i)).1;
    settled_change = λ a i z. settled_change i ((moved a z).entry i);
    served = λ i t u l at d. served s x b slots room o h a₀ there j i l t u at d;
    deep = λ f. elim (m.whole_or_split f) [ inl k ↦ inl (λ i l. idle k i l (slots i) refl, k) | inr k ↦ inr k ];
  }
    where
      c : Copy
      c = resolved_in s x b slots j o

      m : SlotsTaken s x b slots o j (replace_leaf x (made x b) o) c
      m = taken s x b slots room o h a₀ there j

      r : Refined s.depth x o c
      r = m.shape

      moved : (a : ℕ) → InBucket x a → LeafChanged s x b slots j (made x b) (leaf_of c a)
      moved a z =
          subst (λ (l : Leaf). LeafChanged s x b slots j l (leaf_of c a)) (start_leaf s x b slots room o h a₀ there a z) (m.leaves a)

      settled_change :
          {v : Body} (i : ℕ) → DueChange s x b slots j i b v → SettledChange b v (slots i) ((i < j) × (due x b i (slots i) ≡ true)) i
      settled_change i (inl e) = settled_same e
      settled_change i (inr e) = settled_new (e.0, e.1) (due_unsettled x b i (slots i) e.1) e.2

      -- an update that is due would have been served, and x is as it was
      idle :
          ((a : ℕ) → InBucket x a → leaf_of c a ≡ made x b) → (i : ℕ) → i < j → (w : Slot) → slots i ≡ w → due x b i w ≡ false
      idle k i l empty at = refl
      idle k i l (announced u t) at = is_false _ (λ d.
          let z : leaf_of c (account u) ≡ made x b = k (account u) (eqb-true _ _ (and_parts _ _ d).0) in
          let e : Served i t (made x b) = subst (Served i t) z (served s x b slots room o h a₀ there j i l t u at (rw at d)) in
          omega (arith, due_unsettled x b i (announced u t) d))

uniform_coherent : (k d : ℕ) → d ≤ k → Coherent k (uniform d)
unfolding leaf_of
uniform_coherent k d l = record {
  bound = l;
  shallow = λ e. omega arith;
  named = λ a. refl;
  shared = λ a e i. ap (λ (q : ℕ). kept (record { depth = d; prefix = q })) i;
  reached = (0, omega arith);
}

-- x is a bucket of a directory: the name of some account a₀ at a depth up to M
module _ (s : Settings) (room : s.depth ≤ 32) (x : Name) (a₀ : ℕ) (named : x ≡ name_at x.depth a₀) (below : x.depth ≤ s.depth)
    (b : Body) (slots : ℕ → Slot) where
  uniform_leaf : leaf_of (uniform x.depth) a₀ ≡ kept x
  unfolding leaf_of
  uniform_leaf = ap kept (sym named)

  pub resolved_ok : (j : ℕ) → Made s x b slots j (resolved s x b slots j)
  unfolding resolved
  resolved_ok = made_ok s room x b slots (uniform x.depth) (uniform_coherent s.depth x.depth below) a₀ uniform_leaf

  -- taking the slots in any working copy that has x: inside x the same as apart from all other buckets, outside nothing
  module _ (c : Copy) (coherent : Coherent s.depth c) (there : leaf_of c a₀ ≡ kept x) where
    pub taken_inside :
        (j a : ℕ) → InBucket x a → leaf_of (take_slots s x b slots j (replace_leaf x (made x b) c)) a ≡ leaf_of (resolved s x b slots j) a
    unfolding resolved
    taken_inside =
        inside_same s x b slots room c (uniform x.depth) coherent (uniform_coherent s.depth x.depth below) a₀ there uniform_leaf

    pub taken_outside : (j a : ℕ) → (InBucket x a → ⊥) → leaf_of (take_slots s x b slots j (replace_leaf x (made x b) c)) a ≡ leaf_of c a
    taken_outside j a h = (refined_take_slots room s (omega arith) coherent a₀ x there b slots j).outside a h

    pub taken_coherent : (j : ℕ) → Coherent s.depth (take_slots s x b slots j (replace_leaf x (made x b) c))
    taken_coherent j = (refined_take_slots room s (omega arith) coherent a₀ x there b slots j).coherent
