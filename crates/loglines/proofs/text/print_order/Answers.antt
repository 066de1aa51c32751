-- `print_order`: the word, i places behind it, and a line feed.
use Prim.Native.Nat.{◌+◌, ◌-◌, ◌*◌, ◌≤◌}
use mathlib.Core.Path.{◌≡◌, refl, sym, ◌∙◌, ap}
use mathlib.Core.List.{[], ◌∷◌, ◌++◌}
use native.Mathlib.Omega.{arith}
use lib.ListN.{length, take, get_or, length-set, length-append}
use lib.Seq.{take_all}
use Rattle.interface.specs.Numbers.{bytes}
use Rattle.lists.specs.Parts.{overlay}
use Rattle.lists.proofs.PartLaws.{overlay_nil}
use Rattle.decimals.specs.Ascii.{line_feed}
use Rattle.decimals.proofs.Overlays.{next, next_byte}
use Rattle.loglines.specs.Texts.{place_text}
use Rattle.loglines.proofs.TextLaws.{spaced, spaced_next, order-text, wrote_count, wrote_text}
use Rattle.loglines.proofs.text.print_order.Goals as goal
use Rattle.loglines.proofs.text.print_order.Goals.{After-print_word-at, At-loop-place}

bytes_five : length (bytes "order") ≡ 5
unfolding bytes
bytes_five = refl

-- the word is written, and its length is 5
word_in : (p : After-print_word-at)
    → (p.print_word-at.result ≡ 5)
    × (p.print_word-at.new.out ≡ overlay p.args.out.now 0 (bytes "order"))
unfolding bytes
word_in p =
    let h = p.requires in
    (wrote_count p.print_word-at.ensures (omega arith), wrote_text p.print_word-at.ensures (omega arith))

-- the rest has room
room_for : (a : At-loop-place)
    → a.loop-place.at + 21 * (length a.args.places.now - a.loop-place.place-index) + 1
    ≤ length a.loop-place.out
room_for a =
    let five = (word_in (goal.at.At-loop-place a).After-print_word-at).0 in
    omega (
      arith,
      a.loop-place.invariant.0,
      a.loop-place.invariant.1.1.1,
      a.print_word-at.auto.out,
      a.requires,
    )

pub loop-place-init : goal.loop-place-init
unfolding spaced
loop-place-init c = (refl, (sym (overlay_nil _ _), (omega arith, omega arith)))

pub print_place-at-requires : goal.print_place-at-requires
print_place-at-requires c =
    let room = room_for (goal.at.print_place-at-requires c).At-loop-place in
    let h : c.loop-place.at + 21 ≤ length c.loop-place.out = omega (arith, c.loop-place-test.true) in
    h

pub loop-place-preserved : goal.loop-place-preserved
loop-place-preserved c =
    let t = c.print_place-at in
    let l = c.print_word-at.new.out in
    let at = c.print_word-at.result in
    let ps = c.args.places.now in
    let i = c.loop-place.place-index in
    let test = c.loop-place-test.true in
    let room = room_for (goal.at.loop-place-preserved c).At-loop-place in
    let e = spaced_next ps i test in
    let n = length-append (spaced (take i ps)) (place_text (get_or ps i 0)) in
    let m = ap length e in (
      t.auto.out ∙ c.loop-place.invariant.0,
      (
        next l at (spaced (take i ps)) c.loop-place.at (place_text (get_or ps i 0))
            (omega (arith, c.loop-place.invariant.0, c.loop-place.invariant.1.1.0)) c.loop-place.invariant.1.0 t.ensures.0
            (sym c.loop-place.invariant.1.1.0)
            ∙ ap (overlay l at) e,
        (
          omega (arith, t.ensures.1.0, c.loop-place.invariant.1.1.0),
          omega (arith, t.ensures.1.1, c.loop-place.invariant.1.1.1),
        ),
      ),
    )

pub bounds-out-at : goal.bounds-out-at
bounds-out-at c = omega (arith, room_for (goal.at.bounds-out-at c).At-loop-place)

pub overflow_add-result : goal.overflow_add-result
overflow_add-result c =
    record { fits = omega (arith, room_for (goal.at.overflow_add-result c).At-loop-place, c.loop-place.invariant.0, c.print_word-at.auto.out) }

pub shape_of-out : goal.shape_of-out
shape_of-out c =
    length-set c.loop-place.out c.loop-place.at 10 ∙ c.loop-place.invariant.0 ∙ c.print_word-at.auto.out

pub returns : goal.returns
returns c =
    let l = c.print_word-at.new.out in
    let at = c.print_word-at.result in
    let ps = c.args.places.now in
    let word = word_in (goal.at.returns c).After-print_word-at in
    let room = room_for (goal.at.returns c).At-loop-place in
    let all : take c.loop-place.place-index ps ≡ ps = take_all c.loop-place.place-index ps (omega arith) in
    let inv = rw all at c.loop-place.invariant.1 in
    let rest = spaced ps ++ line_feed ∷ [] in
    let n = length-append (spaced ps) (line_feed ∷ []) in
    let m = length-append (bytes "order") rest in
    let t = order-text ps in
    let b = bytes_five in (
      next c.args.out.now 0 (bytes "order") at rest (omega (arith, c.requires)) word.1
          (next_byte l at (spaced ps) c.loop-place.at line_feed (omega (arith, c.loop-place.invariant.0, inv.1.0)) inv.0 (sym inv.1.0))
          (omega arith)
          ∙ ap (overlay c.args.out.now 0) t,
      (omega (arith, inv.1.0, ap length t), omega (arith, length-set c.loop-place.out c.loop-place.at line_feed)),
    )
