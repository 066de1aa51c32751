-- Laws of a bucket's state that is loaded in two loops: two or three arrays at a time, one item of each at a time.
-- Rests on the laws of runs.
use Prim.Native.Nat.{ℕ, ◌+◌, ◌≤◌, ◌<◌}
use mathlib.Core.Path.{◌≡◌, refl, ◌∙◌}
use mathlib.Core.Logic.{◌⊎◌, inl, inr}
use mathlib.Core.List.{List}
use native.Mathlib.Nat.{add_assoc}
use native.Mathlib.Omega.{arith}
use lib.ListN.{get_or, set}
use Rattle.fields.specs.Fields.{record_count, record_applied, record_toggle, record_accounts, accounts_from, totals_from, settled_from, answers_from, posted_from, record_size}
use Rattle.bucket.specs.declared.BucketState.{BucketState}
use Rattle.memory.specs.Words.{least}
use Rattle.record.specs.Loads.{copied, loaded_state}
use Rattle.record.proofs.Runs.{copied_more, copied_same, length_copied}
use Rattle.memory.proofs.Lesser.{least_bound}
use Rattle.bucket.proofs.Sizes.{Sized}

-- the state after i accounts and j workers, c and d the count and the applied bits; p, t, u, v and w are the addresses of the five runs
abbrev pub loading : List ℕ → ℕ → ℕ → ℕ → ℕ → ℕ → ℕ → ℕ → ℕ → ℕ → BucketState
loading l p t u v w i j c d =
    record {
      accounts = copied l p i;
      totals = copied l t i;
      settled = copied l u j;
      answers = copied l v j;
      posted = copied l w j;
      count = c;
      applied = d;
    }

module _ (s : BucketState) (l : List ℕ) (p t u v w i j c d : ℕ) (e : s ≡ loading l p t u v w i j c d) where
  pub account_loaded :
      record {
        accounts = set s.accounts i (get_or l (p + i) 0);
        totals = set s.totals i (get_or l (t + i) 0);
        settled = s.settled;
        answers = s.answers;
        posted = s.posted;
        count = s.count;
        applied = s.applied;
      } ≡ loading l p t u v w (i + 1) j c d
  account_loaded = rw (e, copied_more _ l p i refl, copied_more _ l t i refl)

  pub worker_loaded :
      record {
        accounts = s.accounts;
        totals = s.totals;
        settled = set s.settled j (get_or l (u + j) 0);
        answers = set s.answers j (get_or l (v + j) 0);
        posted = set s.posted j (get_or l (w + j) 0);
        count = s.count;
        applied = s.applied;
      } ≡ loading l p t u v w i (j + 1) c d
  worker_loaded = rw (e, copied_more _ l u j refl, copied_more _ l v j refl, copied_more _ l w j refl)

pub state_loaded : (s : BucketState) (l : List ℕ) (q b n c : ℕ) → c ≡ least (get_or l (q + record_count) 0) b
    → s ≡ loading l (accounts_from q) (totals_from q b) (settled_from q b) (answers_from q b n) (posted_from q b n) c n c
    (get_or l (q + record_applied) 0)
    → s ≡ loaded_state l q b n
unfolding loaded_state
state_loaded s l q b n c e f = f ∙ simp e

pub loaded_sized : (l : List ℕ) (q b n : ℕ) → Sized (loaded_state l q b n)
unfolding loaded_state
loaded_sized l q b n =
    record {
      accounts = length_copied l _ _;
      totals = length_copied l _ _;
      settled = length_copied l _ _;
      answers = length_copied l _ _;
      posted = length_copied l _ _;
    }

pub loaded_count : (l : List ℕ) (q b n : ℕ) → (loaded_state l q b n).count ≤ b
unfolding loaded_state
loaded_count l q b n = least_bound (get_or l (q + record_count) 0) b

-- the state depends on the record's words alone, and not on its toggle, depth, prefix and number
pub loaded_kept :
    (l m : List ℕ) (q p b n : ℕ) → ((i : ℕ) → i < record_size b n → (i < record_toggle) ⊎ (record_accounts ≤ i)
    → get_or l (q + i) 0 ≡ get_or m (p + i) 0)
    → loaded_state l q b n ≡ loaded_state m p b n
unfolding loaded_state
loaded_kept l m q p b n h =
    let e : get_or l (q + record_count) 0 ≡ get_or m (p + record_count) 0 = h record_count (omega arith) (inl (omega arith)) in
    let c : ℕ = least (get_or m (p + record_count) 0) b in
    let d : c ≤ b = least_bound (get_or m (p + record_count) 0) b in
    let run : (o u v k : ℕ) → u ≡ q + o → v ≡ p + o → record_accounts ≤ o → o + k ≤ record_size b n → copied l u k ≡ copied m v k =
    λ o u v k f g r w.
    copied_same l m u v k
    (λ i x. rw (f, g, add_assoc q o i, add_assoc p o i) (h (o + i) (omega arith) (inr (omega arith)))) in
    rw (
      e,
      run record_accounts (accounts_from q) (accounts_from p) c refl refl (omega arith) (omega arith),
      run (totals_from 0 b) (totals_from q b) (totals_from p b) c (omega arith) (omega arith) (omega arith) (omega arith),
      run (settled_from 0 b) (settled_from q b) (settled_from p b) n (omega arith) (omega arith) (omega arith) (omega arith),
      run (answers_from 0 b n) (answers_from q b n) (answers_from p b n) n (omega arith) (omega arith) (omega arith) (omega arith),
      run (posted_from 0 b n) (posted_from q b n) (posted_from p b n) n (omega arith) (omega arith) (omega arith) (omega arith),
      h record_applied (omega arith) (inl (omega arith)),
    )

pub loaded_same :
    (l m : List ℕ) (q p b n : ℕ) → ((i : ℕ) → i < record_size b n → get_or l (q + i) 0 ≡ get_or m (p + i) 0)
    → loaded_state l q b n ≡ loaded_state m p b n
loaded_same l m q p b n h = loaded_kept l m q p b n (λ i g o. h i g)
