-- `rebates` refuses as the listing does or where a list is too short, or writes: a case for each `return`.
-- Rests on the laws of rows with their rebates, and on the lengths of zeros: none is computed.
use Prim.Native.Nat.{ℕ}
use native.Mathlib.Omega.{arith}
use mathlib.Core.Logic.{◌⊎◌, inl, inr}
use lib.IntN.{pos}
use Rattle.std.proofs.lemmas.Result.{err_from_is_err_and}
use Rattle.rows.proofs.AllRows.{AllRows, rows_counted, rows_refused, zeros_long}
use Rattle.rebates.proofs.RebateRows.{rebates_refused, rebates_narrow, rebates_all}
use Rattle.rebates.proofs.rebates.Goals as goal
use Rattle.rebates.proofs.rebates.Goals.{In_ok-n}

-- a listing that is counted has all rows
counted : (c : In_ok-n) → AllRows c.args.words.now c.in_ok-n.n c.listing.new.accounts
    c.listing.new.totals
counted c = rows_counted _ _ _ _ _ c.listing.ensures c.in_ok-n.was

-- either list is too short
either : {A B C : Type 0} → A ⊎ (B × C) → A ⊎ C
either (inl a) = inl a
either (inr x) = inr x.1

pub returns-then-accounts-k : goal.returns-then-accounts-k
returns-then-accounts-k c =
    rebates_narrow (counted (goal.at.returns-then-accounts-k c).In_ok-n) _ _ (either c.then-accounts-k.either)

pub write-requires : goal.write-requires
write-requires c =
    let all = counted (goal.at.write-requires c).In_ok-n in
    (omega (arith, all.few), (omega (arith, all.few), (c.if-accounts-k.false, c.if-rebates-k.false)))

pub returns-in_err-n : goal.returns-in_err-n
returns-in_err-n c =
    let p = err_from_is_err_and c.from_residual.result c.from_residual.ensures.1 in
    rw (p.1, p.2)
    (rebates_refused
    (rows_refused _ _ _ _ (zeros_long {A = ℕ} 0) (zeros_long (pos 0)) _ c.listing.ensures c.in_err-n.was) _ _)

pub returns : goal.returns
returns c =
    rebates_all (counted (goal.at.returns c).In_ok-n) _ _ _ _ c.if-accounts-k.false c.if-rebates-k.false
    c.write.ensures.0 c.write.ensures.1
