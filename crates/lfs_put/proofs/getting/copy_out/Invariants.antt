use Rattle.std.proofs.Common.{◌≡◌, ◌*◌}
use Rattle.lfs_fs.specs.Seen.{seen}
use Rattle.lfs_model.specs.declared.limits.TheConstants.{LONGEST_TRANSFER}
use Rattle.lfs_put.proofs.GetCalls.{CopyingOut}
use Rattle.lfs_put.proofs.getting.copy_out.Given as goal

abbrev pub invariant-loop-part : goal.invariant-loop-part
invariant-loop-part g l =
    (l.offset ≡ LONGEST_TRANSFER * l.part)
    × CopyingOut g.D.SectorDevice.state (seen l.fn.fs) (seen l.fs) l.fn.handle (g.W.Write.contents l.fn.output)
    (g.W.Write.contents l.output) l.offset
