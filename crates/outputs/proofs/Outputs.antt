-- What a printer leaves is a text emitted behind the used bytes; rows one by one.
-- Rests on the definitions of specs/Outputs and on the replies' printers.
use Prim.Native.Nat.{ℕ, suc, ◌+◌, ◌-◌, ◌≤◌, ◌<◌}
use mathlib.Core.Path.{◌≡◌, refl, ap}
use mathlib.Core.Bool.{Bool, true, false, ◌||◌}
use mathlib.Core.List.{List, map}
use native.Mathlib.Nat.{add-zero}
use native.Mathlib.Numerals.{add-one}
use native.Mathlib.Omega.{arith}
use lib.IntN.{ℤ, pos}
use lib.ListN.{length, get_or}
use lib.Dec.{ltb}
use borrow.Author.Tests.{leb-true, ltb-false}
use Rattle.interface.specs.Numbers.{number_of}
use Rattle.interface.specs.declared.Refusal.{Refusal}
use Rattle.machine.specs.Choice.{when◌then◌else◌}
use Rattle.layout.specs.Shape.{strange, shape_of}
use Rattle.sorting.specs.RowLists.{row_at, rows_at}
use Rattle.rows.specs.Rows.{rows, Shown, shown, listing_words}
use Rattle.replies.specs.declared.Reply.{Reply}
use Rattle.lists.specs.Parts.{overlay}
use Rattle.printers.specs.Written.{fits, Wrote}
use Rattle.replies.specs.Printed.{printed_row, printed_end, printed_reply}
use Rattle.outputs.specs.Outputs.{Output, emitted, put_rows, put_listed, DriverState, listed_as, listed}
use Rattle.std.specs.Prelude.{Ok, Err}

module _ {l : List ℕ} {at : ℕ} {xs : List ℕ} {r : ℕ} {after : List ℕ} (w : Wrote l at xs r after) where
  pub wrote_put : ◌≡◌ {A = Output} (record { bytes = after; used = at + r }) (emitted (record { bytes = l; used = at }) xs)
  unfolding emitted when◌then◌else◌
  wrote_put = rw (w.count, w.buffer) (by (fits l at xs))
    where
      by : (t : Bool)
          → ◌≡◌ {A = Output} (record { bytes = when t then overlay l at xs else l; used = at + (when t then length xs else 0) })
          (when t then record { bytes = overlay l at xs; used = at + length xs } else record { bytes = l; used = at })
      by true = refl
      by false = rw (add-zero at)

  -- the used bytes stay below any bound of theirs and of the buffer
  pub wrote_within : (n : ℕ) → length l ≤ n → at ≤ n → at + r ≤ n
  unfolding fits when◌then◌else◌
  wrote_within n h k = by (fits l at xs) refl
    where
      by : (t : Bool) → fits l at xs ≡ t → at + r ≤ n
      by true e = let f = leb-true (at + length xs) (length l) e in let g : r ≡ length xs = rw e at w.count in omega arith
      by false e = let g : r ≡ 0 = rw e at w.count in omega arith

-- ---- rows

module _ (accounts : List ℕ) (totals : List ℤ) where
  pub rows_start : (o : Output) (n : ℕ) → put_rows o (rows_at accounts totals 0 (n - 0)) ≡ put_rows o (rows_at accounts totals 0 n)
  rows_start o n = let z : n - 0 ≡ n = omega arith in rw z

  pub rows_end : (o : Output) (i n : ℕ) → n ≤ i → o ≡ put_rows o (rows_at accounts totals i (n - i))
  unfolding put_rows rows_at
  rows_end o i n h = let z : n - i ≡ 0 = omega arith in rw z

  pub rows_next : (o p : Output) (i n : ℕ) → i < n → p ≡ emitted o (printed_row (get_or accounts i 0) (get_or totals i (pos 0)))
      → put_rows p (rows_at accounts totals (i + 1) (n - (i + 1))) ≡ put_rows o (rows_at accounts totals i (n - i))
  unfolding put_rows rows_at row_at
  rows_next o p i n h e = let z : n - i ≡ suc (n - (i + 1)) = omega arith in rw (z, e, add-one)

-- ---- the listing

module _ (l accounts : List ℕ) (totals : List ℤ) where
  counted : (s p q : Bool) (r : List (ℕ × ℤ)) (n : ℕ) (x : Shown) → ltb (length accounts) (length r) ≡ p
      → ltb (length totals) (length r) ≡ q
      → x ≡ when s then record { accounts = accounts; totals = totals; listed = Err Refusal.Strange }
      else when p || q then record { accounts = accounts; totals = totals; listed = Err Refusal.Narrow }
      else record {
        accounts = overlay accounts 0 (map (λ y. y.0) r);
        totals = overlay totals 0 (map (λ y. y.1) r);
        listed = Ok (length r);
      }
      → x.listed ≡ Ok n → (n ≤ length accounts) × (n ≤ length totals)
  unfolding when◌then◌else◌
  counted true p q r n x e f g h = let z : ◌≡◌ {A = ℕ} 0 1 = cc (ap (λ (y : Shown). y.listed) g) in absurd (omega arith)
  counted false true q r n x e f g h = let z : ◌≡◌ {A = ℕ} 0 1 = cc (ap (λ (y : Shown). y.listed) g) in absurd (omega arith)
  counted false false true r n x e f g h = let z : ◌≡◌ {A = ℕ} 0 1 = cc (ap (λ (y : Shown). y.listed) g) in absurd (omega arith)
  counted false false false r n x e f g h =
      let k = ltb-false (length accounts) (length r) e in
      let m = ltb-false (length totals) (length r) f in
      let c : length r ≡ n = cc (ap (λ (y : Shown). y.listed) g) in
      (omega arith, omega arith)

  -- a count is no more than either list's length
  pub count_within : (n : ℕ) → (listing_words l accounts totals).listed ≡ Ok n → (n ≤ length accounts) × (n ≤ length totals)
  unfolding listing_words shown
  count_within n e = counted (strange l) _ _ (rows l (shape_of l)) n _ refl refl refl e

module _ (s : DriverState) (x : Shown) (e : x ≡ listing_words s.words s.accounts s.totals) (q : Output) where
  pub listed_count : (n : ℕ) (p : Output) → x.listed ≡ Ok n → p ≡ put_rows s.output (rows_at x.accounts x.totals 0 n)
      → q ≡ emitted p (printed_end n)
      → ◌≡◌ {A = DriverState} (record { words = s.words; accounts = x.accounts; totals = x.totals; output = q }) (listed s)
  unfolding listed listed_as put_listed
  listed_count n p f g h = rw (← e, f, h, g)

  pub listed_refused : (r : Refusal) (k : ℕ) → x.listed ≡ Err r → k ≡ number_of r
      → q ≡ emitted s.output (printed_reply (Reply.Refused k))
      → ◌≡◌ {A = DriverState} (record { words = s.words; accounts = x.accounts; totals = x.totals; output = q }) (listed s)
  unfolding listed listed_as put_listed
  listed_refused r k f g h = rw (← e, f, h, g)
