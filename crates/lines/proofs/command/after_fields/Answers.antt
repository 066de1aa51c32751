-- `after_fields`: a fourth field, and no fifth.
-- Rests on the laws that it cites and on the contracts of what is called.
use Prim.Native.Nat.{ℕ, ◌+◌}
use mathlib.Core.Path.{sym, ◌∙◌, ap}
use mathlib.Core.List.{List, [], ◌∷◌}
use lib.ListN.{take, drop}
use Rattle.lines.specs.Grammar.{of_fields, letter_of}
use Rattle.lines.proofs.Splitting.{found, none_found, one-field, more_fields, too_many}
use Rattle.lines.proofs.command.after_fields.Goals as goal

pub returns-in-Some : goal.returns-in-Some
returns-in-Some c =
    let l = c.args.rest.now in
    let n = c.in-Some.field-0 in
    let f = found l n c.in-Some.ensures in
    too_many (c.args.letter ∷ []) c.args.x.now c.args.y.now (take n l) (drop (n + 1) l)
    ∙ sym (ap (λ (fs : List (List ℕ)). of_fields ((c.args.letter ∷ []) ∷ c.args.x.now ∷ c.args.y.now ∷ fs)) (more_fields l n f.0 f.1))

pub returns-in-None : goal.returns-in-None
unfolding of_fields letter_of
returns-in-None c =
    let l = c.args.rest.now in
    c.four_fields.ensures
    ∙ sym (ap (λ (fs : List (List ℕ)). of_fields ((c.args.letter ∷ []) ∷ c.args.x.now ∷ c.args.y.now ∷ fs))
    (one-field l (none_found l c.in-None.ensures)))
