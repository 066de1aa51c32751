-- Laws of a bucket's state that is stored in two loops: two or three arrays at a time, one item of each at a time.
-- Rests on the memory's laws of runs.
use Prim.Native.Nat.{ℕ, ◌+◌, ◌≤◌, ◌<◌}
use mathlib.Core.Path.{◌≡◌, refl, ◌∙◌, ap}
use mathlib.Core.List.{List}
use native.Mathlib.Omega.{arith}
use lib.ListN.{length, take, get_or, set, length-set}
use Rattle.fields.specs.Fields.{record_count, record_applied, accounts_from, totals_from, settled_from, answers_from, posted_from}
use Rattle.bucket.specs.declared.BucketState.{BucketState}
use Rattle.memory.specs.Words.{least, stored}
use Rattle.memory.proofs.Runs.{set_before, stored_more, stored_run}
use Rattle.storing.specs.Stores.{stored_state}

-- two runs laid over words keep their length
pair_length :
    (l : List ℕ) (p t : ℕ) (x y : List ℕ) (k : ℕ) → p + k ≤ length l → t + k ≤ length l → k ≤ length x → k ≤ length y
    → length (stored (stored l p x k) t y k) ≡ length l
pair_length l p t x y k h m a b =
    let n = (stored_run l p x k h a).long in
    (stored_run (stored l p x k) t y k (omega arith) b).long ∙ n

-- one item more of two arrays, and of three
pub pair_stored :
    (w l : List ℕ) (p t : ℕ) (x y : List ℕ) (i : ℕ) → w ≡ stored (stored l p x i) t y i → p + i < t → t + i < length l → i < length x
    → i < length y → set (set w (p + i) (get_or x i 0)) (t + i) (get_or y i 0) ≡ stored (stored l p x (i + 1)) t y (i + 1)
unfolding stored
pair_stored w l p t x y i e h k m n =
    let a = (stored_run l p x i (omega arith) (omega arith)).long in
    let b = (stored_run l p x (i + 1) (omega arith) (omega arith)).long in
    let first : set w (p + i) (get_or x i 0) ≡ stored (stored l p x (i + 1)) t y i =
    ap (λ (z : List ℕ). set z (p + i) (get_or x i 0)) e
    ∙ set_before (stored l p x i) t (take i y) (get_or x i 0) (p + i) h (omega arith)
    ∙ ap (λ (z : List ℕ). stored z t y i) (stored_more _ l p x i refl (omega arith) m) in
    stored_more _ (stored l p x (i + 1)) t y i first (omega arith) n

pub triple_stored :
    (w l : List ℕ) (p t u : ℕ) (x y z : List ℕ) (i : ℕ) → w ≡ stored (stored (stored l p x i) t y i) u z i → p + i < t → t + i < u
    → u + i < length l → i < length x → i < length y → i < length z
    → set (set (set w (p + i) (get_or x i 0)) (t + i) (get_or y i 0)) (u + i) (get_or z i 0)
    ≡ stored (stored (stored l p x (i + 1)) t y (i + 1)) u z (i + 1)
unfolding stored
triple_stored w l p t u x y z i e h k m a b c =
    let old : List ℕ = stored (stored l p x i) t y i in
    let n = pair_length l p t x y i (omega arith) (omega arith) (omega arith) (omega arith) in
    let n' = pair_length l p t x y (i + 1) (omega arith) (omega arith) (omega arith) (omega arith) in
    let mid : List ℕ = set old (p + i) (get_or x i 0) in
    let first : set w (p + i) (get_or x i 0) ≡ stored mid u z i =
    ap (λ (v : List ℕ). set v (p + i) (get_or x i 0)) e ∙ set_before old u (take i z) (get_or x i 0) (p + i) (omega arith) (omega arith) in
    let second : set (set w (p + i) (get_or x i 0)) (t + i) (get_or y i 0) ≡ stored (stored (stored l p x (i + 1)) t y (i + 1)) u z i =
    ap (λ (v : List ℕ). set v (t + i) (get_or y i 0)) first
    ∙ set_before mid u (take i z) (get_or y i 0) (t + i) k (simp length-set (omega arith))
    ∙ ap (λ (v : List ℕ). stored v u z i) (pair_stored old l p t x y i refl h (omega arith) a b) in
    stored_more _ (stored (stored l p x (i + 1)) t y (i + 1)) u z i second (omega arith) c

pub state_stored :
    (l w z : List ℕ) (q b n c : ℕ) (s : BucketState) → c ≡ least s.count b
    → w ≡ stored (stored (set (set l (q + record_count) c) (q + record_applied) s.applied) (accounts_from q) s.accounts c)
    (totals_from q b) s.totals c
    → z ≡ stored (stored (stored w (settled_from q b) s.settled n) (answers_from q b n) s.answers n) (posted_from q b n) s.posted n
    → z ≡ stored_state l q b n s
unfolding stored_state
state_stored l w z q b n c s e f g = g ∙ simp (f, e)
