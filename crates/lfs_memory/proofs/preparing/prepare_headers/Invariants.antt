use Rattle.std.proofs.Common.{drop}
use Rattle.lfs_memory.proofs.Prepared.{HeadersPrepared}
use Rattle.lfs_memory.proofs.preparing.prepare_headers.Given as goal

abbrev pub invariant-loop-edit : goal.invariant-loop-edit
invariant-loop-edit g l =
    HeadersPrepared (g.D.SectorDevice.state l.initial.device) (g.D.SectorDevice.state l.device) l.initial.memory l.memory l.edits
    (drop l.edit-index l.edits) l.edit-index
