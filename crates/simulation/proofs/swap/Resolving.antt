-- The marked buckets resolved in place, one after the other: the words then stand for the machine's working copy.
-- Rests on the taken updates of one bucket, and on what a round makes of a full bucket.
use Prim.Native.Nat.{ℕ, zero, suc, ◌+◌, ◌≤◌, ◌<◌}
use native.Mathlib.Omega.{arith}
use native.Mathlib.Decide.{ℕ_discrete}
use mathlib.Core.Path.{◌≡◌, refl, ap, sym, ◌∙◌, subst}
use mathlib.Core.Logic.{◌≢◌, inl, by_cases}
use mathlib.Core.Bool.{true}
use mathlib.Core.List.{List}
use lib.Dec.{eqb}
use borrow.Author.Tests.{eqb-true, eqb-false}
use Rattle.interface.specs.declared.Settings.{Settings}
use Rattle.machine.specs.Choice.{when◌then◌else◌}
use Rattle.machine.specs.Sequential.{Update, account}
use Rattle.machine.specs.Records.{bucket_of, Name, Body, kept, made, Copy, Slot, empty, announced, Cells}
use Rattle.machine.specs.BucketPass.{splittable}
use Rattle.machine.specs.DirectoryPass.{copy_of, leaf_of, name_of, replace_leaf, take_slots}
use Rattle.machine.proofs.laws.Base.{if_elim}
use Rattle.machine.proofs.laws.Copies.{InBucket, Coherent, Partition, partition_name, partition_of, same_leaf, leaf_of_copy_of, due}
use Rattle.machine.specs.Tasks.{leaf}
use Rattle.machine.proofs.invariant.Inv.{leaf_body, body, resolved, ResolvedTo}
use Rattle.machine.proofs.laws.Resolve.{taken_inside, taken_outside}
use Rattle.fields.specs.Fields.{header_depth, worker_marks}
use Rattle.fields.specs.Regions.{record', start_of, worker}
use Rattle.rules.specs.Rules.{bit, descriptor_in}
use Rattle.layout.specs.Shape.{word}
use Rattle.layout.specs.Addresses.{marked_at, record_for}
use Rattle.taking.specs.Taking.{dues_at, taken_all}
use Rattle.directory.specs.Directory.{resolved_at}
use Rattle.simulation.specs.Meaning.{at, name_in, account_in, Directs}
use Rattle.simulation.proofs.frames.Frames.{keeps_same, worker_wide}
use Rattle.simulation.proofs.frames.Entering.{depth_bound, directed_record}
use Rattle.simulation.proofs.swap.Halves.{frame_refl}
use Rattle.simulation.proofs.swap.InPlace.{Old, Content, Mid}
use Rattle.simulation.proofs.swap.LeafReplaced.{replaced_mid}
use Rattle.simulation.proofs.swap.TakenUpdates.{SwapReady, slot-read, slot_is, takes_mid}
use Rattle.simulation.proofs.swap.DueUpdates.{dues_bits, due-at}
use Rattle.simulation.proofs.frames.WordBits.{bit_zero}

-- words l₀, cells c₀, the slots that worker w has read, and its working copy o
module _ (s : Settings) (l₀ : List ℕ) (c₀ : Cells) (w : ℕ) (slots : ℕ → Slot) (o : Copy) where
  -- worker i's slot is marked, and its account is of account a's bucket
  pub record Marks (i a : ℕ) : Type 0 where
    pub marked : bit (at s l₀ (worker w) worker_marks) i ≡ 1
    pub here : leaf c₀ (account_in (slots i)) ≡ leaf c₀ a

  -- what is asked of them
  pub record Start : Type 0 where
    pub swap_ready : SwapReady s l₀ c₀ w slots
    pub coherent : Coherent s.depth (copy_of c₀.directory.value)
    pub directory : (a : ℕ) → (r : ℕ) × Directs s l₀ a r × (name_in s l₀ r ≡ leaf c₀ a)
    pub apart : (a e r t : ℕ) → Directs s l₀ a r → Directs s l₀ e t → name_in s l₀ r ≡ name_in s l₀ t → r ≡ t
    pub depth : word l₀ header_depth ≡ c₀.directory.value.depth
    pub grown : (i a : ℕ) → i < s.workers → Marks i a → ResolvedTo s slots (leaf c₀ a) (leaf_body c₀ a) a (leaf_of o a)
    pub once : (i k a : ℕ) → i < s.workers → k < s.workers → Marks i a → Marks k a → i ≡ k
    pub full : (i : ℕ) → i < s.workers → bit (at s l₀ (worker w) worker_marks) i ≡ 1 → slots i ≡ empty → ⊥

  -- in words l the buckets of the marks below j are resolved
  pub record Resolved (j : ℕ) (l : List ℕ) : Type 0 where
    pub copy : Copy
    pub mid : Mid s l₀ c₀ l copy
    pub done : (a i : ℕ) → i < j → Marks i a → leaf_of copy a ≡ leaf_of o a
    pub rest : (a : ℕ) → ((i : ℕ) → i < j → Marks i a → ⊥) → leaf_of copy a ≡ kept (leaf c₀ a)

module _ {s : Settings} {l₀ : List ℕ} {c₀ : Cells} {w : ℕ} {slots : ℕ → Slot} {o : Copy} (b₀ : Start s l₀ c₀ w slots o) where
  abbrev swap_ready : SwapReady s l₀ c₀ w slots
  swap_ready = b₀.swap_ready

  abbrev Middle : List ℕ → Copy → Type 0
  Middle = Mid s l₀ c₀

  small : s.depth ≤ 32
  small = depth_bound s swap_ready.range

  start_mid : Middle l₀ (copy_of c₀.directory.value)
  unfolding leaf_of copy_of bucket_of
  start_mid = record {
    frame = frame_refl s l₀;
    depth = b₀.depth;
    coherent = b₀.coherent;
    index = λ a. (b₀.directory a).0;
    keeps = λ a. record {
      directs = (b₀.directory a).1;
      named = (b₀.directory a).2;
      content = (record { was = (b₀.directory a).1; same = λ i h. refl }, refl);
    };
    apart = λ a e h. b₀.apart a e _ _ (b₀.directory a).1 (b₀.directory e).1 ((b₀.directory a).2 ∙ h ∙ sym (b₀.directory e).2);
    held = λ j r jn h i k. refl;
  }

  start : Resolved s l₀ c₀ w slots o 0 l₀
  start = record {
    copy = copy_of c₀.directory.value;
    mid = start_mid;
    done = λ a i h. absurd (omega arith);
    rest = λ a h. leaf_of_copy_of c₀.directory.value a;
  }

  -- ---- one marked bucket

  abbrev p : ℕ
  p = start_of s (worker w)

  partition : Partition s.depth (leaf c₀)
  partition = partition_of _ b₀.coherent

  -- the bucket of account a₀, whose worker j has marked it
  module _ (j : ℕ) (jn : j < s.workers) (l : List ℕ) (h : Resolved s l₀ c₀ w slots o j l) (u : Update) (t : ℕ)
      (read : slots j ≡ announced u t)
      (m : bit (at s l₀ (worker w) worker_marks) j ≡ 1) where
    abbrev a₀ : ℕ
    a₀ = account u

    abbrev x : Name
    x = leaf c₀ a₀

    abbrev b : Body
    b = leaf_body c₀ a₀

    abbrev mid : Middle l h.copy
    mid = h.mid

    mine : (a : ℕ) → leaf c₀ a ≡ x → Marks s l₀ c₀ w slots o j a
    mine a e = record { marked = m; here = rw read (sym e) }

    there : leaf_of h.copy a₀ ≡ kept x
    there = h.rest a₀ (λ i k q. omega (arith, b₀.once i j a₀ (omega arith) jn q (mine a₀ refl)))

    splits : splittable s x.depth b ≡ true
    splits = (b₀.grown j a₀ jn (mine a₀ refl)).splits

    old : (a : ℕ) → InBucket x a → Old s l₀ c₀ l (mid.index a₀) a × (x ≡ leaf c₀ a)
    old a i =
        let e : leaf_of h.copy a ≡ kept x = same_leaf mid.coherent a₀ x (ap name_of there) a i ∙ there in
        let q : mid.index a ≡ mid.index a₀ = mid.apart a a₀ (ap name_of (e ∙ sym there)) in
        subst (λ (r : ℕ). Old s l₀ c₀ l r a × (x ≡ leaf c₀ a)) q (subst (Content s l₀ c₀ l (mid.index a) a) e (mid.keeps a).content)

    made_mid : Middle l (replace_leaf x (made x b) h.copy)
    made_mid = replaced_mid s l₀ c₀ small l l h.copy mid a₀ x (ap name_of there) b
        (record {
          frame = frame_refl s l;
          depth = refl;
          entries = λ e g. refl;
          others = λ r g d i k. refl;
          name = refl;
        })
        (λ a i. let z = old a i in inl (record { old = z.0; name = z.1; body = ap (body c₀) z.1; splits = splits }))
        (λ i r g k n v. refl)

    abbrev dues : ℕ
    dues = dues_at l s p (start_of s (record' (mid.index a₀))) s.workers

    flags : (i : ℕ) → i < s.workers → eqb (bit dues i) 1 ≡ due x b i (slots i)
    flags i k =
        let z = (old a₀ (partition.named a₀)).0 in
        dues_bits l s p _ s.workers i k
        ∙ due-at s swap_ready.range l (mid.index a₀) x (c₀.buckets x) ((mid.keeps a₀).named ∙ ap name_of there)
        (keeps_same s l₀ l _ _ z.same (swap_ready.keeps a₀ _ z.was)) p i k
        ∙ ap (due x b i) (slot-read swap_ready l h.copy mid i k)

    abbrev after : Copy
    after = take_slots s x b slots s.workers (replace_leaf x (made x b) h.copy)

    taken : Middle (taken_all l s p dues s.workers) after
    taken = takes_mid swap_ready x b h.copy mid.coherent a₀ there dues flags
        s.workers (omega arith) l made_mid

    after_inside : (a : ℕ) → leaf c₀ a ≡ x → leaf_of after a ≡ leaf_of o a
    after_inside a e =
        let i : InBucket x a = subst (λ (y : Name). InBucket y a) e (partition.named a) in
        taken_inside s small x a₀ (partition_name partition a₀) (partition.bound a₀) b slots h.copy mid.coherent there
        s.workers a i
        ∙ ap (λ (y : Name). leaf_of (resolved s y (body c₀ y) slots s.workers) a) (sym e) ∙ sym (b₀.grown j a jn (mine a e)).is

    after_outside : (a : ℕ) → leaf c₀ a ≢ x → leaf_of after a ≡ leaf_of h.copy a
    after_outside a d =
        taken_outside s small x a₀ (partition_name partition a₀) (partition.bound a₀) b slots h.copy mid.coherent there
        s.workers a
        (λ i. d (partition.shared a₀ a i))

    next : Resolved s l₀ c₀ w slots o (suc j) (taken_all l s p dues s.workers)
    next = record {
      copy = after;
      mid = taken;
      done = done;
      rest = λ a q. after_outside a (λ e. q j (omega arith) (mine a e)) ∙ h.rest a (λ i k. q i (omega arith));
    }
      where
        done : (a i : ℕ) → i < suc j → Marks s l₀ c₀ w slots o i a → leaf_of after a ≡ leaf_of o a
        done a i k q = by_cases (ℕ_discrete i j)
            (λ e. after_inside a (sym q.here ∙ rw (e, read)))
            (λ e. after_outside a (λ z. e (b₀.once i j a (omega arith) jn q (mine a z))) ∙ h.done a i (omega arith) q)

    marked_step :
        Resolved s l₀ c₀ w slots o (suc j) (taken_all l s (start_of s (worker w))
        (dues_at l s (start_of s (worker w)) (record_for l s (start_of s (worker w)) j) s.workers) s.workers)
    unfolding descriptor_in
    marked_step =
        rw (
          (slot_is swap_ready j jn u t read l h.copy mid).account,
          directed_record s l (omega (arith, mid.frame.same_length, swap_ready.enough)) a₀ (mid.index a₀) (mid.keeps a₀).directs,
        ) next

  -- ---- all of them

  pub resolves : (j : ℕ) → j ≤ s.workers → Resolved s l₀ c₀ w slots o j (resolved_at l₀ s (start_of s (worker w)) j)
  unfolding resolved_at
  resolves zero h = start
  resolves (suc j) h = by (resolves j (omega arith))
    where
      l' : List ℕ
      l' = resolved_at l₀ s p j

      by :
          Resolved s l₀ c₀ w slots o j l'
          → Resolved s l₀ c₀ w slots o (suc j)
          (when marked_at l' p j then taken_all l' s p (dues_at l' s p (record_for l' s p j) s.workers) s.workers else l')
      by q = if_elim (Resolved s l₀ c₀ w slots o (suc j)) (marked_at l' p j) _ l'
          (λ e. on (slots j) refl (sym same ∙ eqb-true (bit (word l' (p + worker_marks)) j) 1 e))
          (λ e. off (λ f. eqb-false (bit (word l' (p + worker_marks)) j) 1 e (same ∙ f)))
        where
          same : bit (word l' (p + worker_marks)) j ≡ bit (at s l₀ (worker w) worker_marks) j
          same = ap (λ (x : ℕ). bit x j) (q.mid.frame.left (worker w) worker_marks swap_ready.known tt (rw worker_wide (omega arith)))

          on :
              (y : Slot) → slots j ≡ y → bit (at s l₀ (worker w) worker_marks) j ≡ 1
              → Resolved s l₀ c₀ w slots o (suc j) (taken_all l' s p (dues_at l' s p (record_for l' s p j) s.workers) s.workers)
          on empty e f = absurd (b₀.full j h f e)
          on (announced u t) e f = marked_step j h l' q u t e f

          off : bit (at s l₀ (worker w) worker_marks) j ≢ 1 → Resolved s l₀ c₀ w slots o (suc j) l'
          off d = record {
            copy = q.copy;
            mid = q.mid;
            done = λ a i k g. by_cases (ℕ_discrete i j) (λ e. absurd (d (rw e at g.marked))) (λ e. q.done a i (omega arith) g);
            rest = λ a g. q.rest a (λ i k. g i (omega arith));
          }

  -- where there is no mark there is nothing to do
  pub unmarked : at s l₀ (worker w) worker_marks ≡ 0 → Resolved s l₀ c₀ w slots o s.workers l₀
  unmarked e = record {
    copy = start.copy;
    mid = start.mid;
    done = λ a i k g.
        let z : bit 0 i ≡ 1 = rw e at g.marked in
        absurd (omega (arith, bit_zero i));
    rest = λ a g. start.rest a (λ i k. absurd (omega arith));
  }
