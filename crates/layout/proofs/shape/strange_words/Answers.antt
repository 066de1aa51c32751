-- `strange_words` answers the checks behind 8: each `return` is a check that fails, and at the end the last one decides.
-- Rests on the bounds of settings.
use Prim.Native.Nat.{ℕ, ◌+◌, ◌≤◌}
use native.Mathlib.Omega.{arith}
use mathlib.Core.Path.{◌∙◌, ap}
use lib.Dec.{ltb}
use lib.ListN.{length}
use borrow.Author.Tests.{lt-ltb, le-ltb, lt-leb, le-leb}
use Rattle.interface.specs.Limits.{greatest_workers, within}
use Rattle.interface.specs.declared.Settings.{Settings}
use Rattle.interface.proofs.Laws.{within_is}
use Rattle.fields.specs.Fields.{header_settings, header_needed, least_first, greatest_first, widest_record}
use Rattle.fields.specs.Regions.{directory_start, least_words}
use Rattle.layout.specs.Shape.{word, strange}
use Rattle.layout.proofs.Positions.{settings_small, start_bound}
use Rattle.layout.proofs.shape.strange_words.Goals as goal

pub returns-then-len-lt-LEAST_WORDS : goal.returns-then-len-lt-LEAST_WORDS
unfolding strange
returns-then-len-lt-LEAST_WORDS c = rw (lt-ltb (length c.args.words.now) least_words c.if-len-lt-LEAST_WORDS.true)

pub returns-then-x-lt-LEAST_FIRST : goal.returns-then-x-lt-LEAST_FIRST
unfolding strange within
returns-then-x-lt-LEAST_FIRST c =
    let l = c.args.words.now in
    rw (le-ltb (length l) least_words (omega arith), lt-leb least_first (word l header_settings) (omega arith))

pub returns-then-x-gt-GREATEST_FIRST : goal.returns-then-x-gt-GREATEST_FIRST
unfolding strange within
returns-then-x-gt-GREATEST_FIRST c =
    let l = c.args.words.now in
    rw (
      le-ltb (length l) least_words (omega arith),
      le-leb least_first (word l header_settings) (omega arith),
      lt-leb (word l header_settings) greatest_first (omega arith),
    )

pub returns-then-len-words : goal.returns-then-len-words
unfolding strange
returns-then-len-words c =
    let l = c.args.words.now in
    rw (
      le-ltb (length l) least_words (omega arith),
      within_is least_first (word l header_settings) greatest_first (omega arith) (omega arith),
      lt-ltb (length l) (word l header_needed) c.if-len-words.true,
    )

pub directory_start-requires : goal.directory_start-requires
directory_start-requires c = rw c.settings_of.ensures (settings_small _)

pub overflow_add-result : goal.overflow_add-result
overflow_add-result c =
    let s = c.settings_of in
    let small : s.result.workers ≤ greatest_workers = rw s.ensures (settings_small _) in
    omega (arith, start_bound s.result.workers small)

pub returns : goal.returns
unfolding strange
returns c =
    let l = c.args.words.now in
    rw (
      le-ltb (length l) least_words (omega arith),
      within_is least_first (word l header_settings) greatest_first (omega arith) (omega arith),
      le-ltb (length l) (word l header_needed) (omega arith),
    )
    (ap (λ (k : ℕ). ltb (length l) (k + widest_record)) c.directory_start.ensures
    ∙ ap (λ (s : Settings). ltb (length l) (directory_start s.workers + widest_record)) c.settings_of.ensures)
