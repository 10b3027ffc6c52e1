use Rattle.std.proofs.Common.{◌≡◌, arith}
use Rattle.lfs_model.specs.Checkpoint.{usage_blocks}
use Rattle.lfs_format.proofs.FirstSectors.{addressed}
use Rattle.lfs_format.proofs.image.usage_addresses.Goals as goal

pub returns : goal.returns
returns c =
    let all : c.loop-index.index ≡ usage_blocks c.args.segments = omega arith in
    addressed c.args.segments all c.loop-index.invariant.count c.loop-index.invariant.each
