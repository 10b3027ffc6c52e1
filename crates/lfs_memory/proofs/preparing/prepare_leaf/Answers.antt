use Rattle.lfs_memory.proofs.Lifted.{ends_then, prepares_then}
use Rattle.lfs_memory.proofs.preparing.prepare_leaf.Goals as goal

pub returns-clause-prepares : goal.returns-clause-prepares
returns-clause-prepares g c =
    prepares_then
    (g.met.D.SectorDevice.lawful _) c.prepare_pointers-2.ensures.prepares c.prepare_pointers-3.ensures.prepares

pub returns-clause-inside : goal.returns-clause-inside
returns-clause-inside g c = rw c.leaf-leaf.ensures at c.prepare_pointers-3.ensures.inside

pub returns-clause-ends : goal.returns-clause-ends
returns-clause-ends g c =
    ends_then 1 c.prepare_pointers-2.ensures.prepares c.in-Ok.ensures.ends.no_failure c.prepare_pointers-3.ensures.prepares.looks
    c.prepare_pointers-3.ensures.ends
