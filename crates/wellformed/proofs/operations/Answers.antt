-- `operations` tries the operations in turn. Rests on the law of `all`.
use Rattle.std.proofs.Common.{rules}
use Rattle.logs.specs.Log.{is_operation, logged_at}
use Rattle.wellformed.proofs.All.{all_below}
use Rattle.wellformed.proofs.operations.Goals as goal

pub returns : goal.returns
returns c = all_below _ _ _ _ (λ i. is_operation (logged_at c.args.log.now i)) c.all.ensures.ran (λ x b q k. search rules)
