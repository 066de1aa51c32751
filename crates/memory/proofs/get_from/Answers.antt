-- `memory::get_from` reads a word behind a place.
-- Rests on the library's laws of parts of a list.
use Prim.Native.Nat.{◌-◌}
use native.Mathlib.Omega.{arith}
use mathlib.Core.Path.{◌∙◌}
use lib.ListN.{length, drop}
use lib.Seq.{get_or-take, get_or-drop}
use Rattle.memory.proofs.get_from.Goals as goal

pub returns : goal.returns
returns c =
    let args = c.args in
    let l = args.words.now in
    c.get.ensures ∙ get_or-take (length l - args.at) (drop args.at l) args.k 0 (omega arith) ∙ get_or-drop args.at l args.k 0
