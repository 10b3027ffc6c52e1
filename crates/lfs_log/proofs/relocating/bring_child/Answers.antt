use Rattle.std.proofs.Common.{rules, ◌≡◌, ap, refl}
use Rattle.std.specs.Prelude.{None}
use Rattle.lfs_memory.specs.declared.memory.LogMemory.{LogMemory}
use Rattle.lfs_memory.specs.inodes.Blocks.{blocks_of}
use Rattle.lfs_memory.specs.inodes.Key.{entry_of}
use Rattle.lfs_log.proofs.Relocations.{bringing_none, lifting_done}
use Rattle.lfs_log.specs.Relocating.{IsInOrder}
use Rattle.lfs_log.proofs.CameIn.{brings_one, brings_same, still_out}
use Rattle.lfs_log.proofs.Relocated.{no_pointer_there, relocates_of}
use Rattle.lfs_log.proofs.relocating.bring_child.Goals as goal

pub returns-then-has_block-clause-brings : goal.returns-then-has_block-clause-brings
returns-then-has_block-clause-brings g c =
    bringing_none _ _ _ c.requires.memory (search rules)

pub returns-then-has_block-clause-came : goal.returns-then-has_block-clause-came
returns-then-has_block-clause-came g c = brings_same c.args.memory.now c.args.memory.now (entry_of c.args.key) refl

pub returns-in-Ok-true-clause-came : goal.returns-in-Ok-true-clause-came
returns-in-Ok-true-clause-came g c =
    let none : blocks_of c.args.memory.now.dirty (entry_of c.args.key) ≡ None = search rules in
    let before : IsInOrder c.args.memory.now.dirty = search rules in
    let after : IsInOrder c.lift_child.new.memory.dirty = search rules in
    brings_one c.args.memory.now c.lift_child.new.memory c.args.key.formed before after none c.lift_child.ensures.prepares.stay
    (c.in-Ok-true.ensures.inside (search rules)) c.lift_child.ensures.prepares.few

pub returns-in-Ok-false-clause-came : goal.returns-in-Ok-false-clause-came
returns-in-Ok-false-clause-came g c =
    let same = c.in-Ok-false.ensures.same (search rules) in
    brings_same c.args.memory.now c.lift_child.new.memory (entry_of c.args.key) (ap (λ (v : LogMemory). v.dirty) same)

pub returns-in-Ok-false-clause-brings : goal.returns-in-Ok-false-clause-brings
returns-in-Ok-false-clause-brings g c = record {
  relocates = relocates_of c.lift_child.ensures.prepares c.lift_child.ensures.gathers;
  inside = λ is. absurd (cc);
  none = λ _. no_pointer_there _ c.lift_child.new.memory _ (c.in-Ok-false.ensures.none (search rules));
  ends = lifting_done c.in-Ok-false.ensures.ends.no_failure;
}

pub returns-in-Err-clause-came : goal.returns-in-Err-clause-came
returns-in-Err-clause-came g c =
    brings_same c.args.memory.now c.lift_child.new.memory (entry_of c.args.key) (ap (λ (v : LogMemory). v.dirty) c.in-Err.ensures.kept)

pub returns-in-Err-clause-lacks : goal.returns-in-Err-clause-lacks
returns-in-Err-clause-lacks g c is =
    let none : blocks_of c.args.memory.now.dirty (entry_of c.args.key) ≡ None = search rules in
    still_out c.args.memory.now c.lift_child.new.memory (entry_of c.args.key) (ap (λ (v : LogMemory). v.dirty) c.in-Err.ensures.kept) none
