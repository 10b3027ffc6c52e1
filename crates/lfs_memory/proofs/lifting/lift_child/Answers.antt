use Rattle.std.proofs.Common.{rules, refl, inl}
use Rattle.lfs_memory.proofs.Lifted.{prepares_none, not_inside, ends_failed, ends_other}
use Rattle.lfs_memory.proofs.LiftedKeys.{file_is}
use Rattle.lfs_memory.proofs.Gathered.{gathers_none}
use Rattle.lfs_memory.proofs.lifting.lift_child.Goals as goal

pub returns-then-address-eq0-clause-prepares : goal.returns-then-address-eq0-clause-prepares
returns-then-address-eq0-clause-prepares g c = prepares_none refl c.requires.memory

pub returns-then-has_block-clause-prepares : goal.returns-then-has_block-clause-prepares
returns-then-has_block-clause-prepares g c = prepares_none refl c.requires.memory

pub returns-then-address-eq-IN_MEMORY-clause-prepares : goal.returns-then-address-eq-IN_MEMORY-clause-prepares
returns-then-address-eq-IN_MEMORY-clause-prepares g c = prepares_none refl c.requires.memory

pub returns-then-address-eq-IN_MEMORY-clause-ends : goal.returns-then-address-eq-IN_MEMORY-clause-ends
returns-then-address-eq-IN_MEMORY-clause-ends g c =
    ends_failed (not_inside _ _ _ _ (file_is _ refl)
    (rw c.if-address-eq-IN_MEMORY.true at c.known_pointer-address.ensures) (c.if-has_block.ensures.no (search rules)))

pub returns-in-Err-clause-ends : goal.returns-in-Err-clause-ends
returns-in-Err-clause-ends g c = ends_other c.in-Err.ensures.ends

pub returns-then-address-eq0-clause-gathers : goal.returns-then-address-eq0-clause-gathers
returns-then-address-eq0-clause-gathers g c = gathers_none refl

pub returns-then-has_block-clause-gathers : goal.returns-then-has_block-clause-gathers
returns-then-has_block-clause-gathers g c = gathers_none refl

pub returns-then-address-eq-IN_MEMORY-clause-gathers : goal.returns-then-address-eq-IN_MEMORY-clause-gathers
returns-then-address-eq-IN_MEMORY-clause-gathers g c = gathers_none refl

pub returns-then-has_block-clause-comes : goal.returns-then-has_block-clause-comes
returns-then-has_block-clause-comes g c _ = inl refl
