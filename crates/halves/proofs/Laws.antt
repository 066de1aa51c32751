-- Laws of a half, which the function's proof cites: a turn and the end of its loop; a half keeps the items of a state's arrays.
-- Rests on the definitions of specs/Halves, and on the sizes of a state's arrays.
use Prim.Native.Nat.{ℕ, zero, suc, ◌+◌, ◌-◌, ◌≤◌, ◌<◌}
use mathlib.Core.Path.{◌≡◌, refl, sym, ◌∙◌, ap}
use mathlib.Core.Logic.{◌≢◌}
use mathlib.Core.List.{List, [], ◌∷◌, ◌++◌, map, map-append}
use native.Mathlib.Numerals.{add-one}
use native.Mathlib.Omega.{arith}
use lib.ListN.{length, get_or, set, replicate, length-append, length-map, length-replicate}
use lib.Seq.{append_snoc, set_at}
use borrow.Author.Tests.{eq-eqb, ne_eqb}
use Rattle.machine.specs.Choice.{when◌then◌else◌}
use Rattle.machine.specs.Sequential.{first_bits}
use Rattle.machine.proofs.laws.Base.{eq_elim}
use Rattle.bucket.specs.State.{array_size, size_of}
use Rattle.halves.specs.Halves.{keeps, gathered, half_of}
use Rattle.bucket.specs.declared.BucketState.{BucketState}
use Rattle.bucket.proofs.Laws.{size_limit}
use Rattle.bucket.proofs.Sizes.{Sized}

keeps_more : (l : List ℕ) (d q k : ℕ) → first_bits d (get_or l k 0) ≡ q → keeps l d q (k + 1) ≡ keeps l d q k ++ k ∷ []
unfolding keeps when◌then◌else◌
keeps_more l d q k e = rw (add-one, eq-eqb (first_bits d (get_or l k 0)) q e)

keeps_same : (l : List ℕ) (d q k : ℕ) → first_bits d (get_or l k 0) ≢ q → keeps l d q (k + 1) ≡ keeps l d q k
unfolding keeps when◌then◌else◌
keeps_same l d q k e = rw (add-one, ne_eqb (first_bits d (get_or l k 0)) q e)

pub length_keeps : (l : List ℕ) (d q k : ℕ) → length (keeps l d q k) ≤ k
unfolding keeps
length_keeps l d q zero = omega arith
length_keeps l d q (suc k) =
    eq_elim (λ (m : List ℕ). length m ≤ suc k) (first_bits d (get_or l k 0)) q (keeps l d q k ++ k ∷ []) (keeps l d q k)
    (λ e. simp length-append (omega (arith, length_keeps l d q k))) (λ e. omega (arith, length_keeps l d q k))

pub length_gathered : (l positions : List ℕ) → length positions ≤ array_size → length (gathered l positions) ≡ array_size
unfolding gathered
length_gathered l positions h = simp (length-append, length-map, length-replicate) (omega arith)

gathered_more :
    (l positions : List ℕ) (i : ℕ) → length positions < array_size
    → set (gathered l positions) (length positions) (get_or l i 0) ≡ gathered l (positions ++ i ∷ [])
unfolding gathered
gathered_more l positions i h =
    let n : ℕ = length positions in
    let item : ℕ → ℕ = λ k. get_or l k 0 in
    let room : array_size - n ≡ suc (array_size - (n + 1)) = omega arith in
    rw (room, map-append, length-append, append_snoc)
    (set_at (map item positions) 0 (replicate (array_size - (n + 1)) 0) (get_or l i 0) n (length-map positions item))

-- what has been gathered from the positions below i
pub record Halved (l t : List ℕ) (d q i : ℕ) (ks vs : List ℕ) (k : ℕ) : Type 0 where
  pub kept : k ≡ length (keeps l d q i)
  pub names : ks ≡ gathered l (keeps l d q i)
  pub sums : vs ≡ gathered t (keeps l d q i)

module _ (l t : List ℕ) (d q i : ℕ) (ks vs : List ℕ) (k : ℕ) (h : Halved l t d q i ks vs k) where
  gathered_at :
      (o r : List ℕ) → k < array_size → r ≡ gathered o (keeps l d q i) → first_bits d (get_or l i 0) ≡ q
      → set r k (get_or o i 0) ≡ gathered o (keeps l d q (i + 1))
  gathered_at o r m e p =
      ap (λ (b : List ℕ). set b k (get_or o i 0)) e
      ∙ ap (λ (n : ℕ). set (gathered o (keeps l d q i)) n (get_or o i 0)) h.kept
      ∙ gathered_more o (keeps l d q i) i (omega (arith, h.kept))
      ∙ ap (gathered o) (sym (keeps_more l d q i p))

  pub halved_more :
      k < array_size → first_bits d (get_or l i 0) ≡ q
      → Halved l t d q (i + 1) (set ks k (get_or l i 0)) (set vs k (get_or t i 0)) (k + 1)
  halved_more m p =
      record {
        kept = rw (keeps_more l d q i p, length-append) (ap (λ (n : ℕ). n + 1) h.kept);
        names = gathered_at l ks m h.names p;
        sums = gathered_at t vs m h.sums p;
      }

  pub halved_same : first_bits d (get_or l i 0) ≢ q → Halved l t d q (i + 1) ks vs k
  halved_same p =
      let e = sym (keeps_same l d q i p) in
      record { kept = h.kept ∙ ap length e; names = h.names ∙ ap (gathered l) e; sums = h.sums ∙ ap (gathered t) e }

pub halved_start : (l t : List ℕ) (d q : ℕ) → Halved l t d q 0 (replicate array_size 0) (replicate array_size 0) 0
unfolding keeps gathered
halved_start l t d q = record { kept = refl; names = refl; sums = refl }

pub halved_end : (x : BucketState) (d q i : ℕ) (ks vs : List ℕ) (k : ℕ) → Halved x.accounts x.totals d q i ks vs k → i ≡ size_of x
    → record { accounts = ks; totals = vs; settled = x.settled; answers = x.answers; posted = x.posted; count = k; applied = 0 }
    ≡ half_of x d q
unfolding half_of
halved_end x d q i ks vs k h e = rw (h.names, h.sums, h.kept, e)

-- ---- a state's arrays keep their items

pub half_sized : (x : BucketState) (d q : ℕ) → Sized x → Sized (half_of x d q)
unfolding half_of
half_sized x d q z =
    let h = length_keeps x.accounts d q (size_of x) in
    let k = size_limit x in
    record {
      accounts = length_gathered x.accounts _ (omega arith);
      totals = length_gathered x.totals _ (omega arith);
      settled = z.settled;
      answers = z.answers;
      posted = z.posted;
    }
