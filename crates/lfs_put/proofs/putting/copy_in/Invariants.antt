use Rattle.std.proofs.Common.{◌<◌, length}
use Rattle.lfs_fs.specs.Seen.{seen}
use Rattle.lfs_put.proofs.PutCalls.{Copying}
use Rattle.lfs_put.proofs.putting.copy_in.Given as goal

abbrev pub invariant-loop : goal.invariant-loop
invariant-loop g l = (0 < length l.buffer) × Copying g.D.SectorDevice.state (seen l.fn.fs) (seen l.fs) l.fn.handle
    (g.I.Read.remaining l.fn.input) (g.I.Read.remaining l.input) l.offset
