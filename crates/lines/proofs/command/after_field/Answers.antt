-- `after_field`: the fields behind the second one, of which there may be one or two.
-- Rests on the laws that it cites and on the contracts of what is called.
use Prim.Native.Nat.{ℕ, ◌+◌}
use mathlib.Core.Path.{sym, ◌∙◌, ap}
use mathlib.Core.List.{List, [], ◌∷◌}
use Rattle.lines.specs.Grammar.{of_fields, letter_of}
use Rattle.lines.proofs.Splitting.{found, none_found, one-field, more_fields}
use Rattle.numerals.proofs.Parts.{part_from}
use Rattle.lines.proofs.command.after_field.Goals as goal

pub returns-in-None : goal.returns-in-None
unfolding of_fields letter_of
returns-in-None c =
    let l = c.args.rest.now in
    c.three_fields.ensures
    ∙ sym (ap (λ (fs : List (List ℕ)). of_fields ((c.args.letter ∷ []) ∷ c.args.x.now ∷ fs)) (one-field l (none_found l c.in-None.ensures)))

pub returns-in-Some : goal.returns-in-Some
returns-in-Some c =
    let l = c.args.rest.now in
    let n = c.in-Some.end in
    let f = found l n c.in-Some.ensures in
    c.after_fields.ensures
    ∙ rw (part_from l (n + 1))
    (sym (ap (λ (fs : List (List ℕ)). of_fields ((c.args.letter ∷ []) ∷ c.args.x.now ∷ fs)) (more_fields l n f.0 f.1)))
