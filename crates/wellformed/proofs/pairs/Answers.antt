-- `pairs` tries the operations of lower places. Rests on the law of `all`.
use Rattle.std.proofs.Common.{rules}
use Rattle.machine.specs.Choice.{◌and◌}
use Rattle.logs.specs.Log.{apart, in_turn, logged_at}
use Rattle.wellformed.proofs.All.{all_below}
use Rattle.wellformed.proofs.pairs.Goals as goal

pub returns : goal.returns
returns c =
    let l = c.args.log.now in
    all_below _ _ _ _ (λ j. apart (logged_at l j) (logged_at l c.args.i) and in_turn (logged_at l j) (logged_at l c.args.i))
    c.all.ensures.ran (λ x b q k. search rules)
