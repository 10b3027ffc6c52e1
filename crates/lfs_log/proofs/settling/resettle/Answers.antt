use Rattle.std.proofs.Common.{arith}
use Rattle.lfs_log.proofs.UsageMoves.{usage_placed}
use Rattle.lfs_log.proofs.settling.resettle.Goals as goal

pub next_place-place-requires-clause-placed : goal.next_place-place-requires-clause-placed
next_place-place-requires-clause-placed c =
    let few = c.requires.memory.count.most in
    let low = c.requires.index in
    usage_placed _ (omega arith)
