use Rattle.lfs_memory.proofs.Lifted.{map_lost, ends_failed, ends_passed, named_prepares, named_ends}
use Rattle.lfs_memory.proofs.preparing.prepare_header.Goals as goal

pub returns-in-Err-clause-ends : goal.returns-in-Err-clause-ends
returns-in-Err-clause-ends g c = ends_failed (map_lost _ c.in-Err.ensures.lost)

pub returns-clause-prepares : goal.returns-clause-prepares
returns-clause-prepares g c =
    named_prepares (g.met.D.SectorDevice.lawful _) c.requires.memory c.in-Ok.ensures.done c.lift_inode.ensures.prepares

pub returns-in_err-lift_inode-clause-prepares : goal.returns-in_err-lift_inode-clause-prepares
returns-in_err-lift_inode-clause-prepares g c =
    named_prepares (g.met.D.SectorDevice.lawful _) c.requires.memory c.in-Ok.ensures.done c.lift_inode.ensures.prepares

pub returns-in_err-lift_inode-clause-ends : goal.returns-in_err-lift_inode-clause-ends
returns-in_err-lift_inode-clause-ends g c =
    ends_passed (named_ends (g.met.D.SectorDevice.lawful _) c.requires.memory c.in-Ok.ensures.done
    c.lift_inode.ensures.prepares c.in_err-lift_inode.ensures.ends) c.from_residual.ensures
