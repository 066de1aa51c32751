-- `feed`: feeding the bytes left comes to feeding all.
use mathlib.Core.Path.{◌∙◌}
use native.Mathlib.Omega.{arith}
use Rattle.loglines.proofs.Streaming.{fed_next, fed_end}
use Rattle.loglines.proofs.progress.feed.Goals as goal

pub loop-byte-preserved : goal.loop-byte-preserved
loop-byte-preserved c =
    let l = c.loop-byte in fed_next l.feeding c.args.input.now l.byte-index _ (omega arith) c.take-feeding.ensures ∙ l.invariant

pub returns : goal.returns
returns c = let l = c.loop-byte in fed_end l.feeding c.args.input.now l.byte-index (omega arith) ∙ l.invariant
