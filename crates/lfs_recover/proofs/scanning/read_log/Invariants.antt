use Rattle.lfs_salvage.specs.Telling.{TellsNothing}
use Rattle.lfs_recover.proofs.scanning.read_log.Given as goal

abbrev pub invariant-loop-segment : goal.invariant-loop-segment
invariant-loop-segment g l =
    TellsNothing (g.D.SectorDevice.state l.initial.device) (g.D.SectorDevice.state l.device)
