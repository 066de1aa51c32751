-- `print_counted`: the word, the digits behind it and the line feed behind these.
-- Rests on the laws that it cites and on the contracts of what is called.
use Prim.Native.Nat.{ℕ, ◌+◌, ◌≤◌, ◌<◌}
use mathlib.Core.Path.{◌≡◌, sym, ◌∙◌, ap}
use mathlib.Core.List.{[], ◌∷◌, ◌++◌}
use native.Mathlib.Omega.{arith}
use lib.ListN.{length, length-append, length-set}
use Rattle.decimals.specs.Ascii.{line_feed}
use Rattle.decimals.specs.Decimals.{digits, decimal}
use Rattle.lists.specs.Parts.{overlay}
use Rattle.decimals.proofs.DecimalLaws.{length_decimal}
use Rattle.printers.proofs.Written.{wrote, wrote_nothing, has_room, no-room, word_part_feed}
use Rattle.printers.proofs.print_counted.Goals as goal
use Rattle.printers.proofs.print_counted.Goals.{After-digit_count-second, Else-not-room}

size_of : (c : After-digit_count-second)
    → length (c.args.word.now ++ decimal c.args.n ++ line_feed ∷ [])
    ≡ length c.args.word.now + c.digit_count-second.result + 1
size_of c =
    let w = c.args.word.now in
    let d = decimal c.args.n in
    omega (
      arith,
      length-append (w ++ d) (line_feed ∷ []),
      length-append w d,
      length_decimal c.args.n,
      c.digit_count-second.ensures.0,
    )

room_for : (c : Else-not-room)
    → c.args.at +
    (length c.args.word.now + c.digit_count-second.result + 1)
    ≤ length c.args.out.now
room_for c = has_room _ _ _ c.room.ensures c.if-not-room.false

pub returns-then-not-room : goal.returns-then-not-room
returns-then-not-room c =
    let l = c.args.out.now in
    let at = c.args.at in
    let e = size_of (goal.at.returns-then-not-room c).After-digit_count-second in
    let h : length l < at + (length c.args.word.now + c.digit_count-second.result + 1) = no-room _ _ _
    c.room.ensures c.if-not-room.true in
    wrote_nothing l at _ (omega arith)

pub copy-requires : goal.copy-requires
copy-requires c = let h = room_for (goal.at.copy-requires c).Else-not-room in omega arith

pub overflow_add-next : goal.overflow_add-next
overflow_add-next c =
    let h = room_for (goal.at.overflow_add-next c).Else-not-room in
    omega (arith, c.well_formed)

pub spell-requires : goal.spell-requires
spell-requires c =
    let h = room_for (goal.at.spell-requires c).Else-not-room in
    omega (arith, c.copy.auto.out)

pub overflow_add-feed : goal.overflow_add-feed
overflow_add-feed c =
    let h = room_for (goal.at.overflow_add-feed c).Else-not-room in
    omega (arith, c.well_formed)

pub bounds-out-feed : goal.bounds-out-feed
bounds-out-feed c =
    let h = room_for (goal.at.bounds-out-feed c).Else-not-room in
    omega (arith, c.copy.auto.out, c.spell.auto.out)

pub shape_of-out : goal.shape_of-out
shape_of-out c =
    simp length-set (c.spell.auto.out ∙ c.copy.auto.out)

pub returns : goal.returns
unfolding decimal
returns c =
    let l = c.args.out.now in
    let at = c.args.at in
    let w = c.args.word.now in
    let n = c.args.n in
    let h = room_for (goal.at.returns c).Else-not-room in
    let e = size_of (goal.at.returns c).After-digit_count-second in
    wrote l at (w ++ decimal n ++ line_feed ∷ []) _ _ (omega arith) (sym e)
    (word_part_feed l at w (decimal n) c.digit_count-second.result h (c.digit_count-second.ensures.0 ∙ sym (length_decimal n))
    c.copy.ensures
    (c.spell.ensures
    ∙ ap (λ (k : ℕ). overlay c.copy.new.out (at + length w) (digits k n)) c.digit_count-second.ensures.0))
