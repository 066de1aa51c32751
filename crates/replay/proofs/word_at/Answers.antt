-- `word_at` reads a word of an operation. Rests on nothing but the contract of `get_or`.
use Rattle.logs.specs.Log.{word_at}
use Rattle.replay.proofs.word_at.Goals as goal

pub returns : goal.returns
unfolding word_at
returns c = c.get_or.ensures
