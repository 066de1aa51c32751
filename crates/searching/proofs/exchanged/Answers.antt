-- `exchanged` is the definition, test by test. Rests on the laws of an exchange.
use Prim.Native.Nat.{ℕ}
use mathlib.Core.Path.{sym, ap, ◌∙◌}
use mathlib.Core.List.{List}
use lib.Dec.{eqb}
use Rattle.std.specs.Prelude.{Option, Some}
use Rattle.std.specs.Option.{option_eq}
use Rattle.std.specs.Cmp.Lexicographic.{pointwise}
use Rattle.searching.proofs.Candidates.{exchange_earlier, exchange_unfit, exchange_compared}
use Rattle.searching.proofs.exchanged.Goals as goal

pub returns-then-word_at : goal.returns-then-word_at
returns-then-word_at c = exchange_earlier _ _ _ _ _ _ _ _ _ c.word_at.ensures c.word_at-2.ensures c.if-word_at.true

pub returns-in_default : goal.returns-in_default
returns-in_default c =
    exchange_unfit _ _ _ _ _ _ _ _ _ c.word_at.ensures c.word_at-2.ensures c.if-word_at.false
    (sym c.replay.ensures ∙ c.in_default.is)

pub returns : goal.returns
returns c =
    c.eq.ensures
    ∙ ap (λ (o : Option (List ℕ)). option_eq (pointwise eqb) o (Some c.args.after)) c.replay-2.ensures
    ∙ exchange_compared _ _ _ _ _ _ _ _ _ c.word_at.ensures c.word_at-2.ensures c.if-word_at.false c.in-Some.between
    (sym c.replay.ensures ∙ c.in-Some.is)
