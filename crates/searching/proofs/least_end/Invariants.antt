-- `least_end` takes the least end of what is left, place by place. Rests on the law of one place more.
use mathlib.Core.Path.{◌≡◌}
use Rattle.searching.specs.Searching.{least_end}
use Rattle.searching.proofs.least_end.Given as goal

abbrev pub invariant-loop-j : goal.invariant-loop-j
invariant-loop-j l = l.limit ≡ least_end l.log l.here-items l.j
