-- A state that is stored and loaded again: the same accounts, totals, settled tickets, answers and their totals; and no other word has
-- changed.
-- Rests on the laws of runs.
use Prim.Native.Nat.{ℕ, ◌+◌, ◌≤◌, ◌<◌}
use mathlib.Core.Path.{◌≡◌, ◌∙◌}
use mathlib.Core.Logic.{◌⊎◌, inl, inr, ⊎_elim}
use mathlib.Core.List.{List}
use native.Mathlib.Omega.{arith}
use lib.ListN.{length, get_or, set, length-set}
use lib.Seq.{get_or-set_same, get_or-set_other}
use Rattle.interface.specs.Limits.{greatest_workers, greatest_capacity}
use Rattle.fields.specs.Fields.{record_count, record_applied, record_toggle, accounts_from, totals_from, settled_from, answers_from, posted_from, record_size, widest_record}
use Rattle.bucket.specs.declared.BucketState.{BucketState}
use Rattle.memory.specs.Words.{least, stored}
use Rattle.record.specs.Loads.{loaded_state}
use Rattle.storing.specs.Stores.{stored_state}
use Rattle.memory.proofs.Runs.{Run, stored_run}
use Rattle.record.proofs.Runs.{get_d_copied}
use Rattle.bucket.proofs.Sizes.{Sized}
use Rattle.memory.proofs.Lesser.{least_bound, least_same}

-- y is x as far as a record keeps it: its accounts, and its workers' settled tickets and answers with what these have posted
pub record Same (n : ℕ) (x y : BucketState) : Type 0 where
  pub count : y.count ≡ x.count
  pub applied : y.applied ≡ x.applied
  pub account : (i : ℕ) → i < x.count → get_or y.accounts i 0 ≡ get_or x.accounts i 0
  pub total : (i : ℕ) → i < x.count → get_or y.totals i 0 ≡ get_or x.totals i 0
  pub settled : (j : ℕ) → j < n → get_or y.settled j 0 ≡ get_or x.settled j 0
  pub answer : (j : ℕ) → j < n → get_or y.answers j 0 ≡ get_or x.answers j 0
  pub posted : (j : ℕ) → j < n → get_or y.posted j 0 ≡ get_or x.posted j 0

module _ (l : List ℕ) (q b n : ℕ) (x : BucketState) (fits : q + widest_record ≤ length l) (b≤ : b ≤ greatest_capacity)
    (n≤ : n ≤ greatest_workers)
    (sized : Sized x) where
  -- ---- the words after each store

  abbrev c : ℕ
  c = least x.count b

  abbrev l₁ : List ℕ
  l₁ = set (set l (q + record_count) c) (q + record_applied) x.applied

  abbrev l₂ : List ℕ
  l₂ = stored l₁ (accounts_from q) x.accounts c

  abbrev l₃ : List ℕ
  l₃ = stored l₂ (totals_from q b) x.totals c

  abbrev l₄ : List ℕ
  l₄ = stored l₃ (settled_from q b) x.settled n

  abbrev l₅ : List ℕ
  l₅ = stored l₄ (answers_from q b n) x.answers n

  abbrev l₆ : List ℕ
  l₆ = stored l₅ (posted_from q b n) x.posted n

  bound : c ≤ b
  bound = least_bound x.count b

  r₁ : length l₁ ≡ length l
  r₁ = simp length-set

  r₂ : Run l₁ l₂ (accounts_from q) x.accounts c
  r₂ = let d = bound in let e = r₁ in stored_run l₁ (accounts_from q) x.accounts c (omega arith) (omega arith)

  r₃ : Run l₂ l₃ (totals_from q b) x.totals c
  r₃ = let d = bound in let e = r₂.long ∙ r₁ in stored_run l₂ (totals_from q b) x.totals c (omega arith) (omega arith)

  r₄ : Run l₃ l₄ (settled_from q b) x.settled n
  r₄ = let e = r₃.long ∙ r₂.long ∙ r₁ in stored_run l₃ (settled_from q b) x.settled n (omega arith) (omega arith)

  r₅ : Run l₄ l₅ (answers_from q b n) x.answers n
  r₅ = let e = r₄.long ∙ r₃.long ∙ r₂.long ∙ r₁ in stored_run l₄ (answers_from q b n) x.answers n (omega arith) (omega arith)

  r₆ : Run l₅ l₆ (posted_from q b n) x.posted n
  r₆ =
      let e = r₅.long ∙ r₄.long ∙ r₃.long ∙ r₂.long ∙ r₁ in
      stored_run l₅ (posted_from q b n) x.posted n (omega arith) (omega arith)

  pub length_state : length (stored_state l q b n x) ≡ length l
  unfolding stored_state
  length_state = r₆.long ∙ r₅.long ∙ r₄.long ∙ r₃.long ∙ r₂.long ∙ r₁

  -- ---- the words of the record

  pub account_word : (i : ℕ) → i < c → get_or (stored_state l q b n x) (accounts_from q + i) 0 ≡ get_or x.accounts i 0
  unfolding stored_state
  account_word i h =
      let d = bound in
      let at : ℕ = accounts_from q + i in
      r₆.elsewhere at (inl (omega arith)) ∙ r₅.elsewhere at (inl (omega arith)) ∙ r₄.elsewhere at (inl (omega arith))
      ∙ r₃.elsewhere at (inl (omega arith)) ∙ r₂.inside i h

  pub total-word : (i : ℕ) → i < c → get_or (stored_state l q b n x) (totals_from q b + i) 0 ≡ get_or x.totals i 0
  unfolding stored_state
  total-word i h =
      let d = bound in
      let at : ℕ = totals_from q b + i in
      r₆.elsewhere at (inl (omega arith)) ∙ r₅.elsewhere at (inl (omega arith)) ∙ r₄.elsewhere at (inl (omega arith)) ∙ r₃.inside i h

  pub settled_word : (j : ℕ) → j < n → get_or (stored_state l q b n x) (settled_from q b + j) 0 ≡ get_or x.settled j 0
  unfolding stored_state
  settled_word j h =
      let at : ℕ = settled_from q b + j in
      r₆.elsewhere at (inl (omega arith)) ∙ r₅.elsewhere at (inl (omega arith)) ∙ r₄.inside j h

  pub answer-word : (j : ℕ) → j < n → get_or (stored_state l q b n x) (answers_from q b n + j) 0 ≡ get_or x.answers j 0
  unfolding stored_state
  answer-word j h = r₆.elsewhere (answers_from q b n + j) (inl (omega arith)) ∙ r₅.inside j h

  pub posted_word : (j : ℕ) → j < n → get_or (stored_state l q b n x) (posted_from q b n + j) 0 ≡ get_or x.posted j 0
  unfolding stored_state
  posted_word j h = r₆.inside j h

  -- a word that is in none of the five runs
  loose : (i : ℕ) → (i < accounts_from q) ⊎ (posted_from q b n + n ≤ i) → get_or (stored_state l q b n x) i 0 ≡ get_or l₁ i 0
  unfolding stored_state
  loose i h =
      let d = bound in
      ⊎_elim
      (λ p. r₆.elsewhere i (inl (omega arith)) ∙ r₅.elsewhere i (inl (omega arith)) ∙ r₄.elsewhere i (inl (omega arith))
      ∙ r₃.elsewhere i (inl (omega arith)) ∙ r₂.elsewhere i (inl (omega arith)))
      (λ p. r₆.elsewhere i (inr (omega arith)) ∙ r₅.elsewhere i (inr (omega arith)) ∙ r₄.elsewhere i (inr (omega arith))
      ∙ r₃.elsewhere i (inr (omega arith)) ∙ r₂.elsewhere i (inr (omega arith)))
      h

  pub count_word : get_or (stored_state l q b n x) (q + record_count) 0 ≡ c
  count_word =
      loose (q + record_count) (inl (omega arith))
      ∙ get_or-set_other (set l (q + record_count) c) (q + record_applied) (q + record_count) x.applied 0 (λ e. omega arith)
      ∙ get_or-set_same l (q + record_count) c 0 (omega arith)

  pub applied_word : get_or (stored_state l q b n x) (q + record_applied) 0 ≡ x.applied
  applied_word =
      loose (q + record_applied) (inl (omega arith))
      ∙ get_or-set_same (set l (q + record_count) c) (q + record_applied) x.applied 0 (simp length-set (omega arith))

  -- ---- the words that are not the state's: those before the record, its toggle, depth, prefix and number, and those behind it

  pub state_elsewhere :
      (i : ℕ) → (i < q) ⊎ (((q + record_toggle ≤ i) × (i < accounts_from q)) ⊎ (q + record_size b n ≤ i))
      → get_or (stored_state l q b n x) i 0 ≡ get_or l i 0
  state_elsewhere i h =
      ⊎_elim (λ p. go (inl (omega arith)) (λ e. omega arith) (λ e. omega arith))
      (⊎_elim (λ p. go (inl (omega arith)) (λ e. omega arith) (λ e. omega arith))
      (λ p. go (inr (omega arith)) (λ e. omega arith) (λ e. omega arith)))
      h
    where
      go :
          (i < accounts_from q) ⊎ (posted_from q b n + n ≤ i) → (i ≡ q + record_count → ⊥) → (i ≡ q + record_applied → ⊥)
          → get_or (stored_state l q b n x) i 0 ≡ get_or l i 0
      go p e f =
          loose i p ∙ get_or-set_other (set l (q + record_count) c) (q + record_applied) i x.applied 0 f
          ∙ get_or-set_other l (q + record_count) i c 0 e

  -- ---- the round trip

  pub trip : x.count ≤ b → Same n x (loaded_state (stored_state l q b n x) q b n)
  unfolding loaded_state
  trip few =
      let w : List ℕ = stored_state l q b n x in
      let whole : c ≡ x.count = least_same x.count b few in
      let counted : least (get_or w (q + record_count) 0) b ≡ x.count = rw (count_word) (least_same c b bound ∙ whole) in
      record {
        count = counted;
        applied = applied_word;
        account = λ i h. rw counted (get_d_copied w (accounts_from q) x.count i (omega arith) h ∙ account_word i (omega arith));
        total = λ i h. rw counted (get_d_copied w (totals_from q b) x.count i (omega arith) h ∙ total-word i (omega arith));
        settled = λ j h. get_d_copied w (settled_from q b) n j (omega arith) h ∙ settled_word j h;
        answer = λ j h. get_d_copied w (answers_from q b n) n j (omega arith) h ∙ answer-word j h;
        posted = λ j h. get_d_copied w (posted_from q b n) n j (omega arith) h ∙ posted_word j h;
      }
