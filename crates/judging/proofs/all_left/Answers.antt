-- `all_left` fills the first n places.
use Prim.Native.Nat.{ℕ}
use native.Mathlib.Omega.{arith}
use mathlib.Core.Path.{◌≡◌, ap, ◌∙◌}
use lib.ListN.{replicate}
use lib.Seq.{length-take-le}
use Rattle.std.proofs.lemmas.List.{drop-replicate}
use Rattle.judging.specs.Places.{all_left}
use Rattle.judging.proofs.all_left.Goals as goal

pub returns : goal.returns
unfolding all_left
returns c =
    let n = c.args.n in
    let e : c.fill.new.self ≡ replicate n 1 =
    c.fill.ensures.after (λ y h. h) ∙ ap (λ (k : ℕ). replicate k 1) (length-take-le n (replicate 12 0) (omega arith)) in
    rw (e, drop-replicate {X = ℕ} n 12 0)
