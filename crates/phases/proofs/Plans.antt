-- Which step of the plan stands at a position, found by comparing the position with the lengths of the plan's parts.
-- Rests on the plan, and on the library's laws of lists.
use Prim.Native.Nat.{ℕ, zero, suc, ◌+◌, ◌-◌, ◌*◌, ◌≤◌, ◌<◌}
use native.Mathlib.Omega.{arith}
use native.Mathlib.Nat.{eq-or-lt_of_le, le_of_suc-le-suc}
use mathlib.Core.Path.{◌≡◌, refl, sym, ◌∙◌, ap, subst}
use mathlib.Core.List.{List, [], ◌∷◌, ◌++◌}
use mathlib.Core.Logic.{⊎_elim}
use lib.Dec.{leb}
use lib.ListN.{length, get_or, length-append, get_or-append}
use lib.Seq.{get_or-append-add, get_or_at}
use borrow.Author.Tests.{leb-true, leb-false}
use Rattle.machine.specs.Choice.{when◌then◌else◌}
use Rattle.machine.proofs.laws.Base.{if_elim}
use Rattle.machine.proofs.laws.PlanParts.{length_each, length_bucket, length_directory, buckets_first, check_first, directories_first, length_pass}
use Rattle.machine.specs.Plan.{Phase, announce, read_directory, flip_toggle, read_state, read_toggle, swap_state, check_state, copy_directory, swap_directory, read_slot, resize_for, each, bucket_round, bucket_pass, check, directory_round, directory_pass, pass, plan, phase}

-- ---- a position in a list of parts

abbrev at : List Phase → ℕ → Phase
at l k = get_or l k check_state

at_later : (x : Phase) (l : List Phase) (k : ℕ) → 1 ≤ k → at (x ∷ l) k ≡ at l (k - 1)
at_later x l zero h = absurd (omega arith)
at_later x l (suc k) h = let e : suc k - 1 ≡ k = omega arith in rw e

at_front : (l m : List Phase) (n k : ℕ) → length l ≡ n → k < n → at (l ++ m) k ≡ at l k
at_front l m n k e h = get_or-append l m check_state k (omega arith)

at_behind : (l m : List Phase) (n k : ℕ) → length l ≡ n → n ≤ k → at (l ++ m) k ≡ at m (k - n)
at_behind l m n k e h =
    let p : k ≡ length l + (k - n) = omega arith in
    subst (λ (i : ℕ). at (l ++ m) i ≡ at m (k - n)) (sym p) (get_or-append-add l m (k - n) check_state)

-- a position in a list that stands twice
pub at_twice : (l : List Phase) (n k r : ℕ) → length l ≡ n → r ≡ (when leb n k then k - n else k) → at (l ++ l) k ≡ at l r
at_twice l n k r e f =
    rw f
    (if_elim (λ (i : ℕ). at (l ++ l) k ≡ at l i) (leb n k) (k - n) k (λ t. at_behind l l n k e (leb-true n k t))
    (λ t. at_front l l n k e (leb-false n k t)))

pub reduced_below : (n k r : ℕ) → r ≡ (when leb n k then k - n else k) → k < 2 * n → r < n
reduced_below n k r f h =
    rw f
    (if_elim (λ (i : ℕ). i < n) (leb n k) (k - n) k (λ t. let e = leb-true n k t in omega arith) (λ t. leb-false n k t))

-- ---- a step for each worker

at_each : (f : ℕ → Phase) (n i : ℕ) → i < n → at (each f n) i ≡ f i
unfolding each
at_each f zero i h = absurd (omega arith)
at_each f (suc n) i h =
    ⊎_elim (λ e. rw e (get_or_at (each f n) (f n) [] check_state n (length_each f n)))
    (λ k. at_front (each f n) (f n ∷ []) n i (length_each f n) k ∙ at_each f n i k)
    (eq-or-lt_of_le (le_of_suc-le-suc h))

-- the second step of a check, and past it
check_end : (k : ℕ) → 1 ≤ k → at check k ≡ check_state
unfolding check
check_end zero h = absurd (omega arith)
check_end (suc zero) h = refl
check_end (suc (suc k)) h = refl

module _ (n : ℕ) where
  -- ---- the bucket pass

  module _ (i : ℕ) where
    pub bucket_state : i < 1 → at (bucket_round n) i ≡ read_state
    unfolding bucket_round
    bucket_state h = let e : i ≡ 0 = omega arith in rw e

    pub bucket_toggle : 1 ≤ i → i < 2 → at (bucket_round n) i ≡ read_toggle
    unfolding bucket_round
    bucket_toggle h k = let e : i ≡ 1 = omega arith in rw e

    bucket_behind : 2 ≤ i → at (bucket_round n) i ≡ at (each read_slot n ++ swap_state ∷ []) (i - 2)
    unfolding bucket_round
    bucket_behind h =
        let later : List Phase = each read_slot n ++ swap_state ∷ [] in
        let e : i - 1 - 1 ≡ i - 2 = omega arith in
        at_later read_state (read_toggle ∷ later) i (omega arith) ∙ at_later read_toggle later (i - 1) (omega arith) ∙ ap (at later) e

    pub bucket_slot : 2 ≤ i → i < n + 2 → at (bucket_round n) i ≡ read_slot (i - 2)
    bucket_slot h k =
        bucket_behind h ∙ at_front (each read_slot n) _ n (i - 2) (length_each read_slot n) (omega arith)
        ∙ at_each read_slot n (i - 2) (omega arith)

    pub bucket_swap : n + 2 ≤ i → i < n + 3 → at (bucket_round n) i ≡ swap_state
    bucket_swap h k =
        let e : i - 2 ≡ n = omega arith in
        bucket_behind (omega arith) ∙ rw e (get_or_at (each read_slot n) swap_state [] check_state n (length_each read_slot n))

  pub bucket_flip : (r : ℕ) → r < 1 → at (bucket_pass n) r ≡ flip_toggle
  unfolding bucket_pass
  bucket_flip r h = let e : r ≡ 0 = omega arith in rw e

  pub bucket-round :
      (r i : ℕ) → 1 ≤ r → i ≡ (when leb (n + 3) (r - 1) then r - 1 - (n + 3) else r - 1) → at (bucket_pass n) r ≡ at (bucket_round n) i
  unfolding bucket_pass
  bucket-round r i h e =
      at_later flip_toggle (bucket_round n ++ bucket_round n) r h ∙ at_twice (bucket_round n) (n + 3) (r - 1) i (length_bucket n) e

  -- ---- the directory pass

  slots_first : length (copy_directory ∷ each read_slot n) ≡ n + 1
  slots_first = let h = length_each read_slot n in omega arith

  states_first : length (copy_directory ∷ each read_slot n ++ each resize_for n) ≡ 2 * n + 1
  states_first = let h = length_each read_slot n in let k = length_each resize_for n in simp length-append (omega arith)

  module _ (i : ℕ) where
    pub directory_copy : i < 1 → at (directory_round n) i ≡ copy_directory
    unfolding directory_round
    directory_copy h = let e : i ≡ 0 = omega arith in rw e

    pub directory_slot : 1 ≤ i → i ≤ n → at (directory_round n) i ≡ read_slot (i - 1)
    unfolding directory_round
    directory_slot h k =
        at_front (copy_directory ∷ each read_slot n ++ each resize_for n) (swap_directory ∷ []) (2 * n + 1) i states_first (omega arith)
        ∙ at_front (copy_directory ∷ each read_slot n) (each resize_for n) (n + 1) i slots_first (omega arith)
        ∙ at_later copy_directory (each read_slot n) i h ∙ at_each read_slot n (i - 1) (omega arith)

    pub directory_state : n + 1 ≤ i → i ≤ 2 * n → at (directory_round n) i ≡ resize_for (i - (n + 1))
    unfolding directory_round
    directory_state h k =
        at_front (copy_directory ∷ each read_slot n ++ each resize_for n) (swap_directory ∷ []) (2 * n + 1) i states_first (omega arith)
        ∙ at_behind (copy_directory ∷ each read_slot n) (each resize_for n) (n + 1) i slots_first h
        ∙ at_each resize_for n (i - (n + 1)) (omega arith)

    pub directory_swap : 2 * n + 1 ≤ i → i < 2 * n + 2 → at (directory_round n) i ≡ swap_directory
    unfolding directory_round
    directory_swap h k =
        let e : i ≡ 2 * n + 1 = omega arith in
        rw e (get_or_at (copy_directory ∷ each read_slot n ++ each resize_for n) swap_directory [] check_state (2 * n + 1) states_first)

  pub directory-round :
      (r i : ℕ) → i ≡ (when leb (2 * n + 2) r then r - (2 * n + 2) else r) → at (directory_pass n) r ≡ at (directory_round n) i
  unfolding directory_pass
  directory-round r i e = at_twice (directory_round n) (2 * n + 2) r i (length_directory n) e

  -- ---- a pass

  module _ (r : ℕ) where
    pub pass_first : r < 1 → at (pass n) r ≡ read_directory
    unfolding pass
    pass_first h = let e : r ≡ 0 = omega arith in rw e

    in_front : r < 6 * n + 14 → at (pass n) r ≡ at (read_directory ∷ bucket_pass n ++ check ++ directory_pass n) r
    unfolding pass
    in_front h = at_front (read_directory ∷ bucket_pass n ++ check ++ directory_pass n) check (6 * n + 14) r (directories_first n) h

    in_bucket : r < 2 * n + 10 → at (pass n) r ≡ at (read_directory ∷ bucket_pass n ++ check) r
    in_bucket h =
        in_front (omega arith) ∙ at_front (read_directory ∷ bucket_pass n ++ check) (directory_pass n) (2 * n + 10) r (check_first n) h

    pub pass_bucket : 1 ≤ r → r < 2 * n + 8 → at (pass n) r ≡ at (bucket_pass n) (r - 1)
    pass_bucket h k =
        in_bucket (omega arith) ∙ at_front (read_directory ∷ bucket_pass n) check (2 * n + 8) r (buckets_first n) k
        ∙ at_later read_directory (bucket_pass n) r h

    first-check : 2 * n + 8 ≤ r → r < 2 * n + 10 → at (pass n) r ≡ at check (r - (2 * n + 8))
    first-check h k = in_bucket k ∙ at_behind (read_directory ∷ bucket_pass n) check (2 * n + 8) r (buckets_first n) h

    pub pass_look : 2 * n + 8 ≤ r → r < 2 * n + 9 → at (pass n) r ≡ read_directory
    unfolding check
    pass_look h k = let e : r - (2 * n + 8) ≡ 0 = omega arith in first-check h (omega arith) ∙ rw e

    pub pass_check : 2 * n + 9 ≤ r → r < 2 * n + 10 → at (pass n) r ≡ check_state
    unfolding check
    pass_check h k = let e : r - (2 * n + 8) ≡ 1 = omega arith in first-check (omega arith) k ∙ rw e

    pub pass_directory : 2 * n + 10 ≤ r → r < 6 * n + 14 → at (pass n) r ≡ at (directory_pass n) (r - (2 * n + 10))
    pass_directory h k = in_front k ∙ at_behind (read_directory ∷ bucket_pass n ++ check) (directory_pass n) (2 * n + 10) r (check_first n) h

    second-check : 6 * n + 14 ≤ r → at (pass n) r ≡ at check (r - (6 * n + 14))
    unfolding pass
    second-check h = at_behind (read_directory ∷ bucket_pass n ++ check ++ directory_pass n) check (6 * n + 14) r (directories_first n) h

    pub pass_look_again : 6 * n + 14 ≤ r → r < 6 * n + 15 → at (pass n) r ≡ read_directory
    unfolding check
    pass_look_again h k = let e : r - (6 * n + 14) ≡ 0 = omega arith in second-check h ∙ rw e

    -- the last step of a pass, and past it
    pub pass_end : 6 * n + 15 ≤ r → at (pass n) r ≡ check_state
    pass_end h = second-check (omega arith) ∙ check_end (r - (6 * n + 14)) (omega arith)

  -- ---- the plan

  pub plan_announce : (k : ℕ) → k < 1 → phase n k ≡ announce
  unfolding phase plan
  plan_announce k h = let e : k ≡ 0 = omega arith in rw e

  pub plan_pass : (k r : ℕ) → 1 ≤ k → r ≡ (when leb (6 * n + 16) (k - 1) then k - 1 - (6 * n + 16) else k - 1) → phase n k ≡ at (pass n) r
  unfolding phase plan
  plan_pass k r h e = at_later announce (pass n ++ pass n) k h ∙ at_twice (pass n) (6 * n + 16) (k - 1) r (length_pass n) e
