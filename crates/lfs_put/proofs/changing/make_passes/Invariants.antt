use Rattle.lfs_fs.specs.Seen.{seen}
use Rattle.lfs_put.specs.Changing.{PassesOn}
use Rattle.lfs_put.proofs.changing.make_passes.Given as goal

abbrev pub invariant-loop : goal.invariant-loop
invariant-loop g l = PassesOn g.D.SectorDevice.state l.counter (seen l.initial.fs) (seen l.fs)
