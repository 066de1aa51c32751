-- A part of a field from some byte on.
use Prim.Native.Nat.{ℕ, ◌-◌}
use mathlib.Core.Path.{◌≡◌}
use mathlib.Core.List.{List}
use native.Mathlib.Omega.{arith}
use lib.ListN.{length, take, drop, length-drop}
use lib.Seq.{take_all}

-- ---- the fields, one by one

-- what `&l[n..]` is
pub part_from : (l : List ℕ) (n : ℕ) → take (length l - n) (drop n l) ≡ drop n l
part_from l n = take_all (length l - n) (drop n l) (rw length-drop (omega arith))
