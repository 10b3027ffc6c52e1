use Rattle.lfs_salvage.specs.Telling.{TellsNothing}
use Rattle.lfs_salvage.proofs.name_stages.slot_stage.Given as goal

abbrev pub invariant-loop-inode : goal.invariant-loop-inode
invariant-loop-inode g l =
    TellsNothing (g.D.SectorDevice.state l.initial.device) (g.D.SectorDevice.state l.device)
