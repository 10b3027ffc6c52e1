use Rattle.lfs_salvage.specs.Telling.{TellsNothing}
use Rattle.lfs_recover.proofs.rescue.Rescue.open.Given as goal

abbrev pub invariant-loop-entry : goal.invariant-loop-entry
invariant-loop-entry g l =
    TellsNothing (g.D.SectorDevice.state l.initial.device) (g.D.SectorDevice.state l.device)
