-- `after_letter`: the field behind the letter, which another has to follow.
-- Rests on the laws that it cites and on the contracts of what is called.
use Prim.Native.Nat.{ℕ, ◌+◌}
use mathlib.Core.Path.{sym, ◌∙◌, ap}
use mathlib.Core.List.{List, [], ◌∷◌}
use Rattle.lines.specs.Grammar.{of_fields}
use Rattle.lines.proofs.Splitting.{found, none_found, one-field, more_fields}
use Rattle.numerals.proofs.Parts.{part_from}
use Rattle.lines.proofs.command.after_letter.Goals as goal

pub returns-in_err-end : goal.returns-in_err-end
unfolding of_fields
returns-in_err-end c =
    let l = c.args.rest.now in
    c.from_residual.ensures
    ∙ sym (ap (λ (fs : List (List ℕ)). of_fields ((c.args.letter ∷ []) ∷ fs)) (one-field l (none_found l c.in_err-end.ensures)))

pub returns : goal.returns
returns c =
    let l = c.args.rest.now in
    let n = c.in_ok-end.end in
    let f = found l n c.in_ok-end.ensures in
    c.after_field.ensures
    ∙ rw (part_from l (n + 1)) (sym (ap (λ (fs : List (List ℕ)). of_fields ((c.args.letter ∷ []) ∷ fs)) (more_fields l n f.0 f.1)))
