use Rattle.lfs_fs.specs.Seen.{seen}
use Rattle.lfs_fs.proofs.list.Trees.{TreeSoFar}
use Rattle.lfs_fs.proofs.fs.Fs.tree.Given as goal

abbrev pub invariant-loop-number : goal.invariant-loop-number
invariant-loop-number g l = TreeSoFar g.D.SectorDevice.state (seen l.fn.self) l.self l.number l.rows.items
