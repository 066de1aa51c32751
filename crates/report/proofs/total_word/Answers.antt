-- `total_word` gives the word that `total_word` gives, by cases.
-- Rests on the definition.
use Prim.Native.Nat.{ℕ}
use mathlib.Core.Path.{◌≡◌, refl, ◌∙◌, ap}
use lib.IntN.{ℤ}
use mir.Syntax.{w64}
use mir.Val.{SFits, to_z, of_z}
use mir.Facts.{to_z-of_z}
use Rattle.interface.specs.Numbers.{answer_total}
use Rattle.interface.specs.declared.Answer.{Answer}
use Rattle.report.specs.Report.{word_or0, total_word}
use borrow.Author.Rules.{rules}
use Rattle.report.proofs.total_word.Goals as goal

-- the word of a total that stood in a word
kept : {k : ℕ} (z : ℤ) → SFits w64 z → k ≡ of_z w64 (to_z w64 (of_z w64 z)) → k ≡ of_z w64 z
kept z f e = e ∙ ap (of_z w64) (to_z-of_z f)

pub returns-in-Found : goal.returns-in-Found
unfolding total_word word_or0 answer_total
returns-in-Found c =
    let fits : SFits w64 c.in-Found.total = search rules in
    rw c.in-Found.is (kept c.in-Found.total fits c.word_of.ensures)

pub returns-in-Posted : goal.returns-in-Posted
unfolding total_word word_or0 answer_total
returns-in-Posted c =
    let fits : SFits w64 c.in-Posted.total = search rules in
    rw c.in-Posted.is (kept c.in-Posted.total fits c.word_of-in-Posted.ensures)

-- no other answer has a total
other :
    (a : Answer) → ((x : ℤ) → a ≡ Answer.Found x → ⊥) → ((x : ℤ) → a ≡ Answer.Posted x → ⊥) → 0 ≡ total_word a
unfolding total_word word_or0 answer_total
other (Answer.Found x) h k = absurd (h x refl)
other (Answer.Posted x) h k = absurd (k x refl)
other Answer.Added h k = refl
other Answer.Replaced h k = refl
other Answer.Removed h k = refl
other Answer.Absent h k = refl
other Answer.None h k = refl
other Answer.Crowded h k = refl
other Answer.Overrun h k = refl

pub returns-in_default : goal.returns-in_default
returns-in_default c = other _ c.in_default.not-Found c.in_default.not-Posted
