-- `listing` refuses, or writes every row and sorts them, as `listing_words` says: a case for each `return`.
-- Rests on the laws of the listing.
use native.Mathlib.Omega.{arith}
use mathlib.Core.Logic.{inl, inr}
use mathlib.Core.Path.{sym, ◌∙◌}
use Rattle.rows.proofs.RowLaws.{sort_room, sorted_written, listing_strange, listing_narrow, listing_all}
use Rattle.layout.proofs.Checks.{fits_of, fits_read}
use Rattle.rows.proofs.listing.Goals as goal

pub returns-then-strange_words : goal.returns-then-strange_words
returns-then-strange_words c = listing_strange _ _ _ _ c.strange_words.ensures c.if-strange_words.true

pub bounds-words-0 : goal.bounds-words-0
bounds-words-0 c = omega (arith, fits_of _ (sym c.strange_words.ensures ∙ c.if-strange_words.false))

pub count-k-requires : goal.count-k-requires
count-k-requires c =
    fits_read _ _ _ c.strange_words.ensures c.if-strange_words.false c.settings_of-g.ensures

pub returns-then-accounts-k : goal.returns-then-accounts-k
returns-then-accounts-k c =
    listing_narrow _ _ _ _ c.strange_words.ensures _ _
    c.if-strange_words.false c.settings_of-g.ensures c.count-k.ensures
    (inl c.if-accounts-k.true)

pub returns-then-totals-k : goal.returns-then-totals-k
returns-then-totals-k c =
    listing_narrow _ _ _ _ c.strange_words.ensures _ _ c.if-strange_words.false c.settings_of-g.ensures
    c.count-k.ensures (inr c.if-totals-k.true)

pub write-requires : goal.write-requires
write-requires c =
    let f = fits_read _ _ _ c.strange_words.ensures c.if-strange_words.false c.settings_of-g.ensures in
    (f, (omega (arith, c.count-k.ensures), omega (arith, c.count-k.ensures)))

pub sort-requires : goal.sort-requires
sort-requires c =
    let room = sort_room _ _ _ c.count-k.ensures _ _ _ _ c.write.ensures c.if-accounts-k.false c.if-totals-k.false in
    (omega (arith, room.0), omega (arith, room.1))

pub returns : goal.returns
returns c =
    listing_all _ _ _ _ c.strange_words.ensures _ _ c.if-strange_words.false c.settings_of-g.ensures
    c.count-k.ensures _ _ c.if-accounts-k.false c.if-totals-k.false
    (sorted_written _ _ _ c.count-k.ensures _ _ _ _ c.write.ensures _ _ c.sort.ensures)
