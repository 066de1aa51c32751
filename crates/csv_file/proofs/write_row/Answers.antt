-- `write_row`: an account, a comma, a total and the line's end, each behind the one before.
-- Rests on the laws that it cites and on the contracts of what is called.
use Prim.Native.Nat.{◌+◌, ◌≤◌, ◌<◌}
use mathlib.Core.Path.{◌≡◌, ◌∙◌, ap}
use native.Mathlib.Omega.{arith}
use lib.ListN.{length, length-set}
use mir.Facts.{to_z-of_z}
use Rattle.decimals.specs.Signs.{sign_of}
use Rattle.decimals.proofs.DecimalLaws.{length_decimal}
use Rattle.csv_file.specs.Csv.{csv_row}
use Rattle.csv_file.specs.Units.{units_text}
use Rattle.csv_file.proofs.Sizes.{row_length}
use Rattle.csv_file.proofs.UnitLaws.{row-size, row_written}
use Rattle.csv_file.proofs.write_row.Goals as goal
use Rattle.csv_file.proofs.write_row.Goals.{After-digit_count-k, After-signed, After-write_total-end}

-- there is room for the account and a comma
room_for : (c : After-digit_count-k)
    → c.args.at + c.digit_count-k.result < length c.args.out.now
room_for c =
    let a = c.args.account in
    omega (arith, c.requires, row_length a c.args.total, length_decimal a, c.digit_count-k.ensures.0)

cents : (c : After-signed) → c.signed.result ≡ sign_of c.args.total
cents c = c.signed.ensures ∙ ap sign_of (to_z-of_z c.ranges.total)

size_of : (c : After-signed)
    → length (csv_row c.args.account c.args.total)
    ≡ c.digit_count-k.result + 1 + length (units_text c.signed.result) + 2
size_of c =
    omega (
      arith,
      row-size c.args.account c.args.total c.signed.result (cents c),
      c.digit_count-k.ensures.0,
    )

pub spell-requires : goal.spell-requires
spell-requires c = let h = room_for (goal.at.spell-requires c).After-digit_count-k in omega arith

pub bounds-out-comma : goal.bounds-out-comma
bounds-out-comma c = let h = room_for (goal.at.bounds-out-comma c).After-digit_count-k in omega (arith, c.spell.auto.out)

pub write_total-end-requires : goal.write_total-end-requires
write_total-end-requires c =
    let n = size_of (goal.at.write_total-end-requires c).After-signed in
    simp length-set (omega (arith, c.requires, c.spell.auto.out))

-- the buffer is as long as at first, and has room for the line's end
last_length : (c : After-write_total-end) → length c.write_total-end.new.out ≡ length c.args.out.now
last_length c = c.write_total-end.auto.out ∙ simp length-set c.spell.auto.out

end_of : (c : After-write_total-end)
    → c.write_total-end.result + 2
    ≡ c.args.at + length (csv_row c.args.account c.args.total)
end_of c = let n = size_of (goal.at.After-write_total-end c).After-signed in omega (arith, c.write_total-end.ensures.1)

room_behind : (c : After-write_total-end) → c.write_total-end.result + 2 ≤ length c.args.out.now
room_behind c = let e = end_of c in omega (arith, c.requires)

pub bounds-out-end : goal.bounds-out-end
bounds-out-end c = let h = room_behind (goal.at.bounds-out-end c).After-write_total-end in let n = last_length (goal.at.bounds-out-end c).After-write_total-end in omega arith

pub overflow_add-out : goal.overflow_add-out
overflow_add-out c = let h = room_behind (goal.at.overflow_add-out c).After-write_total-end in omega (arith, c.well_formed)

pub bounds-out-end-2 : goal.bounds-out-end-2
bounds-out-end-2 c =
    let h = room_behind (goal.at.bounds-out-end-2 c).After-write_total-end in
    let n = last_length (goal.at.bounds-out-end-2 c).After-write_total-end in
    simp length-set (omega arith)

pub overflow_add-result : goal.overflow_add-result
overflow_add-result c = let h = room_behind (goal.at.overflow_add-result c).After-write_total-end in omega (arith, c.well_formed)

pub shape_of-out : goal.shape_of-out
shape_of-out c = simp length-set (last_length (goal.at.shape_of-out c).After-write_total-end)

pub returns : goal.returns
returns c =
    let a = c.args in (
      row_written a.out.now a.at a.account a.total c.signed.result
          c.digit_count-k.result c.write_total-end.result (cents (goal.at.returns c).After-signed) c.digit_count-k.ensures.0 c.requires
          c.spell.ensures c.write_total-end.ensures.0
          c.write_total-end.ensures.1,
      end_of (goal.at.returns c).After-write_total-end,
    )
