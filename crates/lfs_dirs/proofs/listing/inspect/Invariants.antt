use Rattle.std.proofs.Common.{◌<◌, ◌*◌, ◌+◌}
use Rattle.lfs_dirs.specs.Directory.{per_block, slot_count}
use Rattle.lfs_dirs.proofs.Lists.{ListedFrom}
use Rattle.lfs_dirs.proofs.listing.inspect.Given as goal

abbrev pub invariant-loop-index : goal.invariant-loop-index
invariant-loop-index g l =
    (per_block l.fn.header.form * l.index < slot_count l.fn.header + per_block l.fn.header.form)
    × ListedFrom l.directory.value l.fn.header (g.F.Files.state l.initial.files) (g.F.Files.state l.files) l.index l.entries.items

abbrev pub decreases-loop-index : goal.decreases-loop-index
decreases-loop-index g l = l.index
