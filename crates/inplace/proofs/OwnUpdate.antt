-- A worker's own update carried out on the words of a bucket's record: where its account stands, and each way that it can go.
-- Rests on the laws of arrays changed in the words.
use Prim.Native.Nat.{ℕ, ◌+◌, ◌-◌, ◌≤◌, ◌<◌}
use native.Mathlib.Omega.{arith}
use mathlib.Core.Path.{◌≡◌, refl, sym, ◌∙◌, ap, subst}
use mathlib.Core.Logic.{◌⊎◌, ⊎_elim}
use mathlib.Core.Bool.{false}
use mathlib.Core.List.{List, ◌∷◌}
use lib.ListN.{length, set, take, drop, length-set}
use lib.Seq.{length-take-le, get_or-take}
use Rattle.interface.specs.Numbers.{kind_insert, kind_post}
use Rattle.interface.specs.Limits.{greatest_capacity}
use Rattle.interface.specs.declared.Settings.{Settings}
use Rattle.fields.specs.Fields.{record_count, record_applied, accounts_from, totals_from, settled_from, answers_from, posted_from, widest_record}
use Rattle.arrays.proofs.Laws.{Among, scan_among}
use Rattle.arrays.specs.Arrays.{inserted_in, removed_from, scan}
use Rattle.bucket.specs.State.{size_of, search_of, total_in, put_of, remove_of, settle_of}
use Rattle.rounds.specs.Rounds.{with_applied}
use Rattle.rules.specs.Rules.{creates_by, crowded_by}
use Rattle.rules.proofs.Laws.{room_left}
use Rattle.bucket.specs.declared.BucketState.{BucketState}
use Rattle.arrays.specs.declared.Position.{Position}
use Rattle.arrays.specs.declared.Position.TheVariants.{At, Before}
use Rattle.bucket.proofs.Laws.{size_is, put_new, removed_at}
use Rattle.lists.specs.Parts.{part, overlay}
use Rattle.lists.proofs.PartLaws.{part_ext, part_taken}
use Rattle.record.specs.Loads.{copied, loaded_state}
use Rattle.record.proofs.Runs.{length_copied, get_d_copied}
use Rattle.memory.proofs.Lesser.{count_bound}
use Rattle.layout.specs.Shape.{word, Fits}
use Rattle.record.specs.Bucket.{bucket_at}
use Rattle.inplace.specs.InPlace.{Counted, RoomAt, record_as}
use Rattle.inplace.proofs.ArrayChanges.{Changed, array_kept, array_set, array_raised, array_lowered, arrays_stored}

-- ---- where the account stands

-- what an update starts from: the record at q has c accounts
pub record Start (l : List ℕ) (s : Settings) (q c : ℕ) : Type 0 where
  pub fits : Fits l s
  pub inside : q + widest_record ≤ length l
  pub within : c ≤ s.capacity
  pub few : c ≤ greatest_capacity
  pub behind : totals_from q s.capacity + c < length l
  pub counted : c ≡ (bucket_at l s q).count
  pub sized : c ≡ size_of (bucket_at l s q)

pub start : (l : List ℕ) (s : Settings) (q c : ℕ) → Counted l s q c → Start l s q c
unfolding loaded_state
start l s q c (fits, (inside, counted)) =
    let b = fits.capacity in
    let h : c ≤ s.capacity = count_bound (word l (q + record_count)) s.capacity c counted in
    record {
      fits = fits;
      inside = inside;
      within = h;
      few = omega arith;
      behind = omega arith;
      counted = counted;
      sized = counted ∙ sym (size_is (bucket_at l s q) (omega arith));
    }

-- the search in the accounts is the search in the state that the record has
pub search_is :
    (l : List ℕ) (s : Settings) (q c a : ℕ) → Counted l s q c
    → scan (take (accounts_from q + c - accounts_from q) (drop (accounts_from q) l)) a 0 ≡ search_of (bucket_at l s q) a
unfolding loaded_state search_of
search_is l s q c a known =
    let y = start l s q c known in
    let at : ℕ = accounts_from q in
    let n = length_copied l at c in
    let same : part l at c ≡ take c (copied l at c) =
    part_ext l at c (take c (copied l at c)) (omega (arith, y.behind)) (length-take-le c (copied l at c) (omega (arith, y.few)))
    (λ i h. sym (get_or-take c (copied l at c) i 0 h ∙ get_d_copied l at c i y.few h)) in
    ap (λ (v : List ℕ). scan v a 0) (part_taken l at at c refl ∙ same)
    ∙ ap (λ (k : ℕ). scan (take k (copied l at c)) a 0) y.sized
    ∙ ap (λ (k : ℕ). scan (take (size_of (bucket_at l s q)) (copied l at k)) a 0) y.counted

-- the position that a search gave, as a branch knows it
pub found_as :
    {l : List ℕ} {s : Settings} {q c : ℕ} {p : Position} → Start l s q c → (a : ℕ) → p ≡ search_of (bucket_at l s q) a
    → (v : Position) → p ≡ v → Among c v
unfolding loaded_state search_of
found_as {l} {s} {q} {c} y a e v f =
    let x : BucketState = bucket_at l s q in
    let known : List ℕ = take (size_of x) x.accounts in
    let h = y.few in
    let k = y.sized in
    let long : 0 + length known ≡ c =
    omega (arith, length-take-le (size_of x) x.accounts (omega (arith, length_copied l (accounts_from q) x.count))) in
    subst (Among c) (sym e ∙ f) (subst (λ (k : ℕ). Among k (scan known a 0)) long (scan_among known a 0))

-- an insert or a post that is not crowded has room where its account is missing
pub room_at :
    (s : Settings) (c kind : ℕ) (p : Position) → (kind ≡ kind_insert) ⊎ (kind ≡ kind_post) → crowded_by s c kind p ≡ false → RoomAt s c p
unfolding creates_by
room_at s c kind (At i) k e = tt
room_at s c kind (Before i) k e = room_left s c kind (Before i) (⊎_elim (λ f. rw f) (λ f. rw f) k) e

-- the total there, as the record's words have it
pub total_is :
    {l : List ℕ} {s : Settings} {q c : ℕ} → Start l s q c → (i : ℕ) → i < c
    → word l (totals_from q s.capacity + i) ≡ total_in (bucket_at l s q) (At i)
unfolding total_in loaded_state
total_is {l} {s} {q} y i h =
    let k = y.counted in
    sym (get_d_copied l (totals_from q s.capacity) (bucket_at l s q).count i (omega (arith, y.few)) (omega arith))

-- ---- the ways that an update goes: m₁ after the first two words, m₂ after the accounts, m₃ after the totals, m₆ after all

-- the count and the applied bits written
abbrev pub first_in : List ℕ → ℕ → ℕ → ℕ → List ℕ
first_in l q k bits = set (set l (q + record_count) k) (q + record_applied) bits

-- the ticket settled
abbrev settled_in : List ℕ → Settings → ℕ → ℕ → ℕ → ℕ → ℕ → List ℕ
settled_in m s q j ticket answer posted =
    set (set (set m (settled_from q s.capacity + j) ticket) (answers_from q s.capacity s.workers + j) answer)
    (posted_from q s.capacity s.workers + j) posted

-- a state with k accounts, as F and G make them
abbrev changed : BucketState → ℕ → (List ℕ → List ℕ) → (List ℕ → List ℕ) → BucketState
changed x k F G =
    record {
      accounts = F x.accounts;
      totals = G x.totals;
      settled = x.settled;
      answers = x.answers;
      posted = x.posted;
      count = k;
      applied = x.applied;
    }

module _ {l : List ℕ} {s : Settings} {q c : ℕ} (y : Start l s q c) (bits j ticket answer posted : ℕ)
    (worker : j < s.workers) {m₁ m₂ m₃ m₆ : List ℕ} (e₆ : m₆ ≡ settled_in m₃ s q j ticket answer posted) where
  own_stored :
      (k : ℕ) (F G : List ℕ → List ℕ) → k ≤ s.capacity → m₁ ≡ first_in l q k bits
      → (length m₁ ≡ length l → Changed m₁ m₂ (accounts_from q) c k F)
      → (length m₂ ≡ length l → Changed m₂ m₃ (totals_from q s.capacity) c k G)
      → m₆ ≡ record_as l s q bits (settle_of (changed (bucket_at l s q) k F G) j ticket answer posted)
  unfolding with_applied settle_of loaded_state
  own_stored k F G fit e₁ g₂ g₃ =
      let b = y.fits.capacity in
      let w = y.fits.workers in
      let n₁ : length m₁ ≡ length l = ap length e₁ ∙ simp length-set in
      let y₂ = g₂ n₁ in
      let y₃ = g₃ (y₂.run.long ∙ n₁) in
      let n₃ : length m₃ ≡ length l = y₃.run.long ∙ y₂.run.long ∙ n₁ in
      let m₄ : List ℕ = set m₃ (settled_from q s.capacity + j) ticket in
      let n₄ : length m₄ ≡ length l = length-set m₃ _ ticket ∙ n₃ in
      let m₅ : List ℕ = set m₄ (answers_from q s.capacity s.workers + j) answer in
      let n₅ : length m₅ ≡ length l = length-set m₄ _ answer ∙ n₄ in
      arrays_stored l q s.capacity s.workers c k bits F G (λ v. set v j ticket) (λ v. set v j answer) (λ v. set v j posted) fit
      m₁ m₂ m₃ m₄ m₅ m₆ e₁ y₂ y₃
      (array_set m₃ (settled_from q s.capacity) s.workers (omega arith) m₄ j ticket refl worker (omega arith))
      (array_set m₄ (answers_from q s.capacity s.workers) s.workers (omega arith) m₅ j answer refl worker (omega arith))
      (array_set m₅ (posted_from q s.capacity s.workers) s.workers (omega arith) m₆ j posted e₆ worker (omega arith))
      ∙ rw y.counted

  -- the total of an account that is there
  pub replaced :
      {i : ℕ} (a v : ℕ) → i < c → m₁ ≡ first_in l q c bits → m₂ ≡ m₁ → m₃ ≡ set m₂ (totals_from q s.capacity + i) v
      → m₆ ≡ record_as l s q bits (settle_of (put_of (bucket_at l s q) (At i) a v) j ticket answer posted)
  unfolding put_of
  replaced {i} a v h e₁ e₂ e₃ =
      own_stored c (λ v. v) (λ u. set u i v) y.within e₁
      (λ n. array_kept m₁ (accounts_from q) c y.few m₂ e₂ (omega (arith, y.behind)))
      (λ n. array_set m₂ (totals_from q s.capacity) c y.few m₃ i v e₃ h (omega (arith, y.behind)))
      ∙ rw y.counted

  -- an account that is not there, and there is room
  pub inserted :
      {i : ℕ} (a v : ℕ) → i ≤ c → c < s.capacity → m₁ ≡ first_in l q (c + 1) bits
      → m₂ ≡ overlay m₁ (accounts_from q + i) (a ∷ part m₁ (accounts_from q + i) (c - i))
      → m₃ ≡ overlay m₂ (totals_from q s.capacity + i) (v ∷ part m₂ (totals_from q s.capacity + i) (c - i))
      → m₆ ≡ record_as l s q bits (settle_of (put_of (bucket_at l s q) (Before i) a v) j ticket answer posted)
  inserted {i} a v h room e₁ e₂ e₃ =
      let small : c < greatest_capacity = omega (arith, y.fits.capacity) in
      own_stored (c + 1) (λ u. inserted_in u c i a) (λ u. inserted_in u c i v) (omega arith) e₁
      (λ n. array_raised m₁ (accounts_from q) c y.few m₂ i a e₂ small h (omega (arith, y.behind)))
      (λ n. array_raised m₂ (totals_from q s.capacity) c y.few m₃ i v e₃ small h (omega (arith, y.behind)))
      ∙ ap (λ (x : BucketState). record_as l s q bits (settle_of x j ticket answer posted))
      (put_new (bucket_at l s q) c i y.sized a v _ _ small refl refl)

  -- an account taken out
  pub removed :
      {i : ℕ} → i < c → m₁ ≡ first_in l q (c - 1) bits
      → m₂ ≡ overlay m₁ (accounts_from q + i) (part m₁ (accounts_from q + i + 1) (c - i - 1))
      → m₃ ≡ overlay m₂ (totals_from q s.capacity + i) (part m₂ (totals_from q s.capacity + i + 1) (c - i - 1))
      → m₆ ≡ record_as l s q bits (settle_of (remove_of (bucket_at l s q) (At i)) j ticket answer posted)
  removed {i} h e₁ e₂ e₃ =
      own_stored (c - 1) (λ v. removed_from v c i) (λ v. removed_from v c i) (omega (arith, y.within)) e₁
      (λ n. array_lowered m₁ (accounts_from q) c y.few m₂ i e₂ h (omega (arith, y.behind)))
      (λ n. array_lowered m₂ (totals_from q s.capacity) c y.few m₃ i e₃ h (omega (arith, y.behind)))
      ∙ ap (λ (x : BucketState). record_as l s q bits (settle_of x j ticket answer posted))
      (removed_at (bucket_at l s q) c i y.sized _ _ (c - 1) refl refl refl)

  -- no account changed
  pub kept :
      m₁ ≡ first_in l q c bits → m₂ ≡ m₁ → m₃ ≡ m₂ → m₆ ≡ record_as l s q bits (settle_of (bucket_at l s q) j ticket answer posted)
  kept e₁ e₂ e₃ =
      own_stored c (λ v. v) (λ v. v) y.within e₁
      (λ n. array_kept m₁ (accounts_from q) c y.few m₂ e₂ (omega (arith, y.behind)))
      (λ n. array_kept m₂ (totals_from q s.capacity) c y.few m₃ e₃ (omega (arith, y.behind)))
      ∙ rw y.counted
