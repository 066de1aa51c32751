-- `show`: by the listing's answer.
-- Rests on the laws of listings and on the contracts of what is called.
use mathlib.Core.Path.{sym, ◌∙◌, ap}
use native.Mathlib.Omega.{arith}
use Rattle.rows.specs.Rows.{Shown}
use Rattle.outputs.proofs.Outputs.{count_within, listed_count, listed_refused}
use Rattle.outputs.proofs.show.Goals as goal

pub put_rows-next-requires : goal.put_rows-next-requires
put_rows-next-requires c =
    let g = c.listing in
    let h = count_within _ _ _ _ (ap (λ (y : Shown). y.listed) (sym g.ensures) ∙ c.in-Ok.is) in
    (omega arith, omega arith)

pub returns-in-Ok : goal.returns-in-Ok
returns-in-Ok c =
    listed_count _ _ c.listing.ensures _ _ _ c.in-Ok.is c.put_rows-next.ensures
    c.put_end.ensures

pub returns-in-Err : goal.returns-in-Err
returns-in-Err c =
    listed_refused _ _
    c.listing.ensures _ _ _
    c.in-Err.is c.number.ensures
    c.put_reply.ensures
