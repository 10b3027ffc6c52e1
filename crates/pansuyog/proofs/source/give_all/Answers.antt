use Rattle.std.proofs.Common.{arith}
use Rattle.pansuyog.proofs.Given.{given_none}
use Rattle.pansuyog.proofs.source.give_all.Goals as goal

pub loop-bytes-init : goal.loop-bytes-init
loop-bytes-init c = (omega arith, given_none _ _ _)
