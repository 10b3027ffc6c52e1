use Rattle.lfs_cleaner.specs.Making.{PassesDone}
use Rattle.lfs_cleaner.proofs.making.pass_until_quarter.Given as goal

abbrev pub invariant-loop : goal.invariant-loop
invariant-loop g l = PassesDone g.D.SectorDevice.state l.initial.log l.log l.counter
