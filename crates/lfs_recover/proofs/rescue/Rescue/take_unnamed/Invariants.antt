use Rattle.lfs_salvage.specs.Telling.{TellsNothing}
use Rattle.lfs_recover.proofs.rescue.Rescue.take_unnamed.Given as goal

abbrev pub invariant-loop-is_named : goal.invariant-loop-is_named
invariant-loop-is_named g l =
    TellsNothing (g.D.SectorDevice.state l.initial.device) (g.D.SectorDevice.state l.device)
