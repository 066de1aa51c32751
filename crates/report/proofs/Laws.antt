-- Laws of words told at a report's start, and of an answer's number. Rests on the definitions of specs/Report.
use Prim.Native.Nat.{ℕ, ◌≤◌, ◌<◌}
use native.Mathlib.Omega.{arith}
use mathlib.Core.Path.{◌≡◌, sym, ◌∙◌}
use mathlib.Core.List.{List, [], ◌∷◌, ◌++◌}
use lib.ListN.{length, drop}
use borrow.Author.Tests.{le-leb, lt-leb}
use Rattle.interface.specs.Numbers.{answer_number}
use Rattle.interface.specs.declared.Answer.{Answer}
use Rattle.machine.proofs.laws.Base.{if_true, if_false}
use Rattle.lists.proofs.PartLaws.{overlay_first}
use Rattle.report.specs.Report.{told, told_three}

-- ---- reports

pub told_none : (l xs : List ℕ) → length l < length xs → l ≡ told l xs
unfolding told
told_none l xs h = sym (if_false _ _ (lt-leb (length xs) (length l) h))

pub told_some : (l xs m : List ℕ) → length xs ≤ length l → m ≡ xs → m ++ drop (length xs) l ≡ told l xs
unfolding told
told_some l xs m h e = rw e (sym (if_true _ _ (le-leb (length xs) (length l) h) ∙ overlay_first l xs))

-- ---- three words

pub three_short : (l : List ℕ) (x y z : ℕ) → length l < 3 → told l (x ∷ y ∷ []) ≡ told_three l x y z
unfolding told_three
three_short l x y z h = sym (if_false _ _ (lt-leb 3 (length l) h))

pub three_told : (l : List ℕ) (x y z : ℕ) → 3 ≤ length l → told l (x ∷ y ∷ z ∷ []) ≡ told_three l x y z
unfolding told_three
three_told l x y z h = sym (if_true _ _ (le-leb 3 (length l) h))

-- ---- answers

pub answer_small : (a : Answer) → answer_number a ≤ 11
answer_small Answer.Added = omega arith
answer_small Answer.Replaced = omega arith
answer_small Answer.Removed = omega arith
answer_small Answer.Absent = omega arith
answer_small (Answer.Found total) = omega arith
answer_small Answer.None = omega arith
answer_small (Answer.Posted total) = omega arith
answer_small Answer.Crowded = omega arith
answer_small Answer.Overrun = omega arith
