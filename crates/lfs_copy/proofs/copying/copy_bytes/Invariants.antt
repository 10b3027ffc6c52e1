use Rattle.std.proofs.Common.{◌≡◌, ◌*◌}
use Rattle.lfs_fs.specs.Seen.{seen}
use Rattle.lfs_model.specs.declared.limits.TheConstants.{LONGEST_TRANSFER}
use Rattle.lfs_copy.proofs.Copies.{Copying}
use Rattle.lfs_copy.proofs.copying.copy_bytes.Given as goal

abbrev pub invariant-loop-part : goal.invariant-loop-part
invariant-loop-part g l =
    (l.offset ≡ LONGEST_TRANSFER * l.part)
    × Copying g.D.SectorDevice.state g.E.SectorDevice.state (seen l.fn.from) (seen l.from) (seen l.fn.to) (seen l.to) l.fn.source
    l.fn.target l.offset
