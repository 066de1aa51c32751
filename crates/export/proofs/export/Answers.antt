-- `export` refuses as the listing does or where the output is too short, or writes the file: a case for each `return`.
-- Rests on the laws of its answers.
use Prim.Native.Nat.{ℕ}
use native.Mathlib.Omega.{arith}
use lib.IntN.{pos}
use Rattle.std.proofs.lemmas.Result.{err_from_is_err_and}
use Rattle.rows.proofs.AllRows.{AllRows, rows_counted, rows_refused, zeros_long}
use Rattle.export.proofs.Answers.{export_refused, all_within, export_narrow, enough, export_all}
use Rattle.export.proofs.export.Goals as goal
use Rattle.export.proofs.export.Goals.{In_ok-n}

-- a listing that is counted has all rows
counted : (c : In_ok-n) → AllRows c.args.words.now c.in_ok-n.n c.listing.new.accounts
    c.listing.new.totals
counted c = rows_counted _ _ _ _ _ c.listing.ensures c.in_ok-n.was

pub too_short-requires : goal.too_short-requires
too_short-requires c =
    let all = counted (goal.at.too_short-requires c).In_ok-n in
    (all.few, (omega (arith, all.few), (omega (arith, all.few), all_within all)))

pub returns-then-too_short : goal.returns-then-too_short
returns-then-too_short c =
    export_narrow (counted (goal.at.returns-then-too_short c).In_ok-n) _ _ c.too_short.ensures c.if-too_short.true

pub write_file-requires : goal.write_file-requires
write_file-requires c =
    let all = counted (goal.at.write_file-requires c).In_ok-n in
    (omega (arith, all.few), (omega (arith, all.few), enough all c.args.out.now _ c.too_short.ensures c.if-too_short.false))

pub returns-in_err-n : goal.returns-in_err-n
returns-in_err-n c =
    let p = err_from_is_err_and c.from_residual.result c.from_residual.ensures.1 in
    rw (p.1, p.2)
    (export_refused
    (rows_refused _ _ _ _ (zeros_long {A = ℕ} 0) (zeros_long (pos 0)) _ c.listing.ensures c.in_err-n.was) _)

pub returns : goal.returns
returns c =
    let file = c.write_file.ensures in
    export_all (counted (goal.at.returns c).In_ok-n) _ _ c.too_short.ensures _ _ c.if-too_short.false file.0 file.1
