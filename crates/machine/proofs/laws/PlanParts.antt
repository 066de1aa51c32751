-- The parts of the plan: their lengths, and what holds of each step of them. Rests on the plan alone.
use Prim.Native.Nat.{ℕ, zero, suc, ◌+◌, ◌*◌, ◌≤◌, ◌<◌}
use native.Mathlib.Omega.{arith}
use mathlib.Core.Path.{◌≡◌, refl}
use mathlib.Core.List.{List, [], ◌∷◌, ◌++◌}
use lib.ListN.{length, length-append}
use Rattle.machine.specs.Plan.{Phase, read_directory, flip_toggle, read_state, read_toggle, swap_state, copy_directory, swap_directory, read_slot, resize_for, each, bucket_round, bucket_pass, check, directory_round, directory_pass, pass}

-- ---- lengths

pub length_each : (f : ℕ → Phase) (n : ℕ) → length (each f n) ≡ n
unfolding each
length_each f zero = refl
length_each f (suc n) = let h = length_each f n in simp length-append (omega arith)

module _ (n : ℕ) where
  pub length_bucket : length (bucket_round n) ≡ n + 3
  unfolding bucket_round
  length_bucket = let h = length_each read_slot n in simp length-append (omega arith)

  pub length_buckets : length (bucket_pass n) ≡ 2 * n + 7
  unfolding bucket_pass
  length_buckets = let h = length_bucket in simp length-append (omega arith)

  pub length_directory : length (directory_round n) ≡ 2 * n + 2
  unfolding directory_round
  length_directory = let h = length_each read_slot n in let k = length_each resize_for n in simp length-append (omega arith)

  pub length_directories : length (directory_pass n) ≡ 4 * n + 4
  unfolding directory_pass
  length_directories = let h = length_directory in simp length-append (omega arith)

  -- what a pass has before its first check, before its second part, and before its second check
  pub buckets_first : length (read_directory ∷ bucket_pass n) ≡ 2 * n + 8
  buckets_first = let h = length_buckets in omega arith

  pub check_first : length (read_directory ∷ bucket_pass n ++ check) ≡ 2 * n + 10
  unfolding check
  check_first = let h = length_buckets in simp length-append (omega arith)

  pub directories_first : length (read_directory ∷ bucket_pass n ++ check ++ directory_pass n) ≡ 6 * n + 14
  unfolding check
  directories_first = let h = length_buckets in let k = length_directories in simp length-append (omega arith)

  pub length_pass : length (pass n) ≡ 6 * n + 16
  unfolding pass check
  length_pass = let h = length_buckets in let k = length_directories in simp length-append (omega arith)

-- ---- what holds of each step

module _ (P : Phase → Type 0) where
  pub data All : List Phase → Type 0 where
    nil : All []
    cons : {x : Phase} {l : List Phase} → P x → All l → All (x ∷ l)

  pub all_append : {l m : List Phase} → All l → All m → All (l ++ m)
  all_append nil b = b
  all_append (cons h a) b = cons h (all_append a b)

  all_each : (n : ℕ) (f : ℕ → Phase) → ((j : ℕ) → j < n → P (f j)) → (k : ℕ) → k ≤ n → All (each f k)
  unfolding each
  all_each n f h zero m = nil
  all_each n f h (suc k) m = all_append (all_each n f h k (omega arith)) (cons (h k (omega arith)) nil)

  module _ (n : ℕ) (slots : (j : ℕ) → j < n → P (read_slot j)) where
    pub all_buckets : P flip_toggle → P read_state → P read_toggle → P swap_state → All (bucket_pass n)
    unfolding bucket_pass bucket_round
    all_buckets f s t w =
        let round : All (bucket_round n) =
        cons s (cons t (all_append (all_each n read_slot slots n (omega arith)) (cons w nil))) in
        cons f (all_append round round)

    pub all_directories : ((j : ℕ) → j < n → P (resize_for j)) → P copy_directory → P swap_directory → All (directory_pass n)
    unfolding directory_pass directory_round
    all_directories sizes c w =
        let each_slot = all_each n read_slot slots n (omega arith) in
        let each_size = all_each n resize_for sizes n (omega arith) in
        let round : All (directory_round n) = cons c (all_append (all_append each_slot each_size) (cons w nil)) in
        all_append round round
