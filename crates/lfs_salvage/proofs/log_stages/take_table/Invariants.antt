use Rattle.lfs_salvage.specs.Telling.{TellsNothing}
use Rattle.lfs_salvage.proofs.log_stages.take_table.Given as goal

abbrev pub invariant-loop-sector : goal.invariant-loop-sector
invariant-loop-sector g l =
    TellsNothing (g.D.SectorDevice.state l.initial.device) (g.D.SectorDevice.state l.device)
