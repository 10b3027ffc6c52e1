use Rattle.std.proofs.Common.{rules}
use Rattle.lfs_memory.proofs.Lifted.{ends_other}
use Rattle.lfs_memory.proofs.Prepared.{grown_after}
use Rattle.lfs_memory.proofs.preparing.prepare_pointers.Goals as goal

pub returns-in-Err-clause-ends : goal.returns-in-Err-clause-ends
returns-in-Err-clause-ends g c = ends_other c.in-Err.ensures.ends

pub returns-clause-prepares : goal.returns-clause-prepares
returns-clause-prepares g c =
    grown_after _ (g.met.D.SectorDevice.lawful _)
    c.requires.memory (c.in-Ok-false.ensures.same (search rules)) c.requires.pointers
    (c.in-Ok-false.ensures.none (search rules)) c.grow.ensures c.lift_child.ensures.prepares
