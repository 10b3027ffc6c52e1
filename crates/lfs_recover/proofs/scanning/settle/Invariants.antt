use Rattle.lfs_salvage.specs.Telling.{TellsNothing}
use Rattle.lfs_recover.proofs.scanning.settle.Given as goal

abbrev pub invariant-loop : goal.invariant-loop
invariant-loop g l =
    TellsNothing (g.D.SectorDevice.state l.initial.device) (g.D.SectorDevice.state l.device)
