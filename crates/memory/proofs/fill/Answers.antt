-- `memory::fill` writes one word again and again: the library's fill, as an overlay.
-- Rests on the library's law of a part of a slice that is written.
use Prim.Native.Nat.{ℕ, ◌+◌, ◌-◌}
use mathlib.Core.Path.{◌≡◌, refl, sym, ◌∙◌, ap}
use mathlib.Core.List.{List, ◌++◌}
use native.Mathlib.Omega.{arith}
use lib.ListN.{length, take, drop, replicate, length-replicate}
use Rattle.std.proofs.Common.{take_all}
use Rattle.std.proofs.lemmas.Slice.{put_mid-paste}
use Rattle.lists.specs.Parts.{part, overlay}
use Rattle.lists.proofs.PartLaws.{overlay_nil, length_part}
use Rattle.memory.proofs.fill.Goals as goal

pub returns-then-from-to : goal.returns-then-from-to
unfolding overlay part
returns-then-from-to c =
    let a = c.args in
    let w = a.words.now in
    let k = a.to - a.from in
    let run : List ℕ = replicate k a.v in
    let n : length run ≡ k = length-replicate k a.v in
    let filled = c.fill.ensures.after (λ y e. e) ∙ ap (λ (m : ℕ). replicate m a.v) (length_part w a.from k (omega arith)) in
    put_mid-paste a.from k w _ run k filled refl (sym n)
    ∙ ap (λ (r : List ℕ). take a.from w ++ r ++ drop (a.from + k) w) (take_all k run (omega arith))
    ∙ ap (λ (m : ℕ). take a.from w ++ run ++ drop (a.from + m) w) (sym n)

pub returns-else-from-to : goal.returns-else-from-to
returns-else-from-to c =
    let none : c.args.to - c.args.from ≡ 0 = omega arith in
    rw none (sym (overlay_nil c.args.words.now c.args.from))
