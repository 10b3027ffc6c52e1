use Rattle.lfs_salvage.specs.Telling.{TellsNothing}
use Rattle.lfs_recover.proofs.scanning.read_table.Given as goal

abbrev pub invariant-loop-index : goal.invariant-loop-index
invariant-loop-index g l =
    TellsNothing (g.D.SectorDevice.state l.initial.device) (g.D.SectorDevice.state l.device)
