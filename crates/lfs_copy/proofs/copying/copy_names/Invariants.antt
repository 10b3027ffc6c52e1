use Rattle.lfs_fs.specs.Seen.{seen}
use Rattle.lfs_copy.proofs.Trees.{Naming}
use Rattle.lfs_copy.proofs.copying.copy_names.Given as goal

abbrev pub invariant-loop-index : goal.invariant-loop-index
invariant-loop-index g l = Naming g.D.SectorDevice.state g.E.SectorDevice.state (seen l.initial.from) (seen l.from) (seen l.initial.to)
    (seen l.to) l.fn.plan.rows.items l.index l.bytes
