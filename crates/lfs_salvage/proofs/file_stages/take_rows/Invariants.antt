use Rattle.lfs_salvage.specs.Telling.{TellsNothing}
use Rattle.lfs_salvage.proofs.file_stages.take_rows.Given as goal

abbrev pub invariant-loop-leaf : goal.invariant-loop-leaf
invariant-loop-leaf g l =
    TellsNothing (g.D.SectorDevice.state l.initial.device) (g.D.SectorDevice.state l.device)
