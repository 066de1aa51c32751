-- `all_pairs` tries the operations in turn. Rests on the law of `all`.
use Rattle.std.proofs.Common.{rules}
use Rattle.machine.specs.Choice.{◌and◌}
use Rattle.logs.specs.Log.{all, apart, in_turn, logged_at}
use Rattle.wellformed.proofs.All.{all_below}
use Rattle.wellformed.proofs.all_pairs.Goals as goal

pub returns : goal.returns
returns c =
    let l = c.args.log.now in
    all_below _ _ _ _ (λ i. all i (λ j. apart (logged_at l j) (logged_at l i) and in_turn (logged_at l j) (logged_at l i)))
    c.all.ensures.ran (λ x b q k. search rules)
