use Rattle.std.proofs.Common.{rules, ◌∙◌, sym, refl, inl, inr}
use Rattle.lfs_memory.proofs.Presents.{header_absent}
use Rattle.lfs_memory.proofs.Lifted.{prepares_none, map_lost, inode_stands, not_inside, ends_failed, ends_other, named_prepares, named_ends}
use Rattle.lfs_memory.proofs.LiftedKeys.{file_is}
use Rattle.lfs_memory.proofs.Gathered.{gathers_none, gathers_then, map_of_gathers}
use Rattle.lfs_memory.proofs.Moved.{comes_after_map}
use Rattle.lfs_memory.proofs.lifting.lift_inode.Goals as goal

pub returns-then-address-eq0-clause-prepares : goal.returns-then-address-eq0-clause-prepares
returns-then-address-eq0-clause-prepares g c = prepares_none refl c.requires.memory

pub returns-then-address-eq0-clause-absent : goal.returns-then-address-eq0-clause-absent
returns-then-address-eq0-clause-absent g c _ =
    header_absent _ _ (c.inode_pointer-address.ensures.none c.if-address-eq0.true)

pub returns-then-has_block-clause-prepares : goal.returns-then-has_block-clause-prepares
returns-then-has_block-clause-prepares g c = prepares_none refl c.requires.memory

pub returns-then-address-eq-IN_MEMORY-clause-prepares : goal.returns-then-address-eq-IN_MEMORY-clause-prepares
returns-then-address-eq-IN_MEMORY-clause-prepares g c = prepares_none refl c.requires.memory

pub returns-then-address-eq-IN_MEMORY-clause-ends : goal.returns-then-address-eq-IN_MEMORY-clause-ends
returns-then-address-eq-IN_MEMORY-clause-ends g c =
    ends_failed (not_inside (g.D.SectorDevice.state c.args.device.now) c.args.memory.now _ _ (file_is c.inode-key.result.code refl)
    (inode_stands c.args.memory.now _ 1 c.inode-key.ensures
    (sym (c.inode_pointer-address.ensures.some c.if-address-eq0.false).1 ∙ c.if-address-eq-IN_MEMORY.true))
    (c.if-has_block.ensures.no (search rules)))

pub returns-in-Err-clause-prepares : goal.returns-in-Err-clause-prepares
returns-in-Err-clause-prepares g c = prepares_none c.in-Err.ensures.same c.requires.memory

pub returns-in-Err-clause-ends : goal.returns-in-Err-clause-ends
returns-in-Err-clause-ends g c = ends_failed (map_lost _ c.in-Err.ensures.lost)

pub returns-in-Ok-lift-clause-prepares : goal.returns-in-Ok-lift-clause-prepares
returns-in-Ok-lift-clause-prepares g c =
    named_prepares (g.met.D.SectorDevice.lawful _) c.requires.memory c.in-Ok.ensures.done c.lift.ensures.prepares

pub returns-in-Err-lift-clause-prepares : goal.returns-in-Err-lift-clause-prepares
returns-in-Err-lift-clause-prepares g c =
    named_prepares (g.met.D.SectorDevice.lawful _) c.requires.memory c.in-Ok.ensures.done c.lift.ensures.prepares

pub returns-in-Err-lift-clause-ends : goal.returns-in-Err-lift-clause-ends
returns-in-Err-lift-clause-ends g c =
    ends_other (named_ends (g.met.D.SectorDevice.lawful _) c.requires.memory c.in-Ok.ensures.done c.lift.ensures.prepares
    c.in-Err-lift.ensures.ends)

pub returns-then-address-eq0-clause-gathers : goal.returns-then-address-eq0-clause-gathers
returns-then-address-eq0-clause-gathers g c = gathers_none refl

pub returns-then-has_block-clause-gathers : goal.returns-then-has_block-clause-gathers
returns-then-has_block-clause-gathers g c = gathers_none refl

pub returns-then-address-eq-IN_MEMORY-clause-gathers : goal.returns-then-address-eq-IN_MEMORY-clause-gathers
returns-then-address-eq-IN_MEMORY-clause-gathers g c = gathers_none refl

pub returns-in-Err-clause-gathers : goal.returns-in-Err-clause-gathers
returns-in-Err-clause-gathers g c =
    gathers_none c.in-Err.ensures.same

pub returns-in-Ok-lift-clause-gathers : goal.returns-in-Ok-lift-clause-gathers
returns-in-Ok-lift-clause-gathers g c =
    gathers_then c.lift.ensures.prepares.looks.carries.kept_before (map_of_gathers _ c.in-Ok.ensures.done) c.lift.ensures.gathers

pub returns-in-Err-lift-clause-gathers : goal.returns-in-Err-lift-clause-gathers
returns-in-Err-lift-clause-gathers g c =
    gathers_then c.lift.ensures.prepares.looks.carries.kept_before (map_of_gathers _ c.in-Ok.ensures.done) c.lift.ensures.gathers

pub returns-then-has_block-clause-comes : goal.returns-then-has_block-clause-comes
returns-then-has_block-clause-comes g c _ = inl refl

pub returns-in-Ok-lift-clause-comes : goal.returns-in-Ok-lift-clause-comes
returns-in-Ok-lift-clause-comes g c _ =
    inr (comes_after_map _ (_, refl) c.lift.ensures.prepares.looks.carries.kept_before c.in-Ok.ensures.done
    (rw c.inode-key.ensures at c.in-Ok-lift.ensures.comes))
