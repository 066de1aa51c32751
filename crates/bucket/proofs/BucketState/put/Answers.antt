-- `put` makes the state that `put_of` makes, at any position.
-- Rests on the laws of a put.
use native.Mathlib.Omega.{arith}
use mathlib.Core.Path.{◌≡◌, sym, ◌∙◌, ap}
use lib.ListN.{length}
use borrow.Author.Rules.{rules}
use Rattle.arrays.specs.declared.Position.{Position}
use Rattle.bucket.specs.State.{array_size, put_of}
use Rattle.bucket.proofs.Laws.{put_new, put_none, put_past}
use Rattle.bucket.proofs.BucketState.put.Goals as goal
use Rattle.bucket.proofs.BucketState.put.Goals.{in-At+then-here-lt-ARRAY_SIZE, in-At+else-here-lt-ARRAY_SIZE, in-Before+then-n-lt-ARRAY_SIZE, in-Before+else-n-lt-ARRAY_SIZE}

pub returns : goal.returns
unfolding put_of
returns c =
    let s = c.args in
    let long : length s.self.totals ≡ array_size = search rules in
    elim c.match-p.branch [
      | in-At+then-here-lt-ARRAY_SIZE w ↦ rw (w.accounts-is, w.totals-is, w.count-is)
          (ap (λ (p : Position). put_of s.self p s.account s.total) (sym w.in-At.is))
      | in-At+else-here-lt-ARRAY_SIZE w ↦ rw (w.accounts-is, w.totals-is, w.count-is)
          (put_past s.self s.account s.total w.in-At.here (omega arith)
          ∙ ap (λ (p : Position). put_of s.self p s.account s.total) (sym w.in-At.is))
      | in-Before+then-n-lt-ARRAY_SIZE w ↦ rw (w.accounts-is, w.totals-is, w.count-is)
          (put_new s.self _ w.in-Before.next w.size-n.ensures s.account s.total _ _ w.if-n-lt-ARRAY_SIZE.true
          w.raise.ensures w.raise-then-n-lt-ARRAY_SIZE.ensures
          ∙ ap (λ (p : Position). put_of s.self p s.account s.total) (sym w.in-Before.is))
      | in-Before+else-n-lt-ARRAY_SIZE w ↦ rw (w.accounts-is, w.totals-is, w.count-is)
          (put_none s.self _ w.in-Before.next w.size-n.ensures s.account s.total w.if-n-lt-ARRAY_SIZE.false
          ∙ ap (λ (p : Position). put_of s.self p s.account s.total) (sym w.in-Before.is))
    ]
