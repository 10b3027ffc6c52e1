use Rattle.std.proofs.Common.{rules, arith, ⊎_elim, ◌≡◌, ◌∙◌, ap, refl}
use Rattle.std.specs.Prelude.{None}
use Rattle.lfs_model.specs.Entry.{Inode}
use Rattle.lfs_memory.specs.declared.memory.LogMemory.{LogMemory}
use Rattle.lfs_memory.specs.inodes.Blocks.{blocks_of}
use Rattle.lfs_memory.specs.inodes.Key.{entry_of}
use Rattle.lfs_memory.specs.inodes.MapValue.{address_in}
use Rattle.lfs_log.proofs.Relocations.{bringing_none, lifting_done}
use Rattle.lfs_memory.proofs.LiftedKeys.{file_is}
use Rattle.lfs_log.specs.Relocating.{IsInOrder}
use Rattle.lfs_log.proofs.CameIn.{brings_one, brings_same, still_out}
use Rattle.lfs_log.proofs.Relocated.{no_inode_there, relocates_of, top_inode}
use Rattle.lfs_log.proofs.relocating.bring_inode.Goals as goal

pub returns-in-Ok-false-clause-brings : goal.returns-in-Ok-false-clause-brings
returns-in-Ok-false-clause-brings g c =
    let some = c.file.ensures.some in
    let gone : address_in c.args.memory.now.map c.file.result ≡ 0 = ⊎_elim
    (λ (none : c.file.result ≡ 0). absurd (omega (arith, none, some)))
    (λ (none : address_in c.args.memory.now.map c.file.result ≡ 0). none)
    (c.in-Ok-false.ensures.none (search rules)) in
    record {
      relocates = relocates_of c.lift_inode.ensures.prepares c.lift_inode.ensures.gathers;
      inside = λ is. absurd (cc);
      none = λ _. no_inode_there _ _ _ (file_is _ c.file.ensures.file) c.requires.top
          (ap (λ (v : LogMemory). address_in v.map c.file.result) (c.in-Ok-false.ensures.same (search rules)) ∙ gone);
      ends = lifting_done c.in-Ok-false.ensures.ends.no_failure;
    }

pub returns-then-has_block-clause-brings : goal.returns-then-has_block-clause-brings
returns-then-has_block-clause-brings g c =
    bringing_none _ _ _ c.requires.memory (search rules)

pub returns-then-has_block-clause-came : goal.returns-then-has_block-clause-came
returns-then-has_block-clause-came g c = brings_same c.args.memory.now c.args.memory.now (entry_of c.args.key) refl

pub returns-in-Ok-true-clause-came : goal.returns-in-Ok-true-clause-came
returns-in-Ok-true-clause-came g c =
    let none : blocks_of c.args.memory.now.dirty (entry_of c.args.key) ≡ None = search rules in
    let before : IsInOrder c.args.memory.now.dirty = search rules in
    let after : IsInOrder c.lift_inode.new.memory.dirty = search rules in
    let own : entry_of c.args.key ≡ Inode c.file.result =
    top_inode (entry_of c.args.key) (file_is c.args.key.code c.file.ensures.file) c.requires.top in
    let inside = c.in-Ok-true.ensures.inside (search rules) in
    brings_one c.args.memory.now c.lift_inode.new.memory c.args.key.formed before after none c.lift_inode.ensures.prepares.stay
    (rw own inside.1) c.lift_inode.ensures.prepares.few

pub returns-in-Ok-false-clause-came : goal.returns-in-Ok-false-clause-came
returns-in-Ok-false-clause-came g c =
    let same = c.in-Ok-false.ensures.same (search rules) in
    brings_same c.args.memory.now c.lift_inode.new.memory (entry_of c.args.key) (ap (λ (v : LogMemory). v.dirty) same)

pub returns-in-Err-clause-came : goal.returns-in-Err-clause-came
returns-in-Err-clause-came g c = brings_same c.args.memory.now c.lift_inode.new.memory (entry_of c.args.key) c.in-Err.ensures.kept

pub returns-in-Err-clause-lacks : goal.returns-in-Err-clause-lacks
returns-in-Err-clause-lacks g c is =
    let none : blocks_of c.args.memory.now.dirty (entry_of c.args.key) ≡ None = search rules in
    still_out c.args.memory.now c.lift_inode.new.memory (entry_of c.args.key) c.in-Err.ensures.kept none

pub returns-in-Ok-true-clause-comes : goal.returns-in-Ok-true-clause-comes
returns-in-Ok-true-clause-comes g c on =
    let own : entry_of c.args.key ≡ Inode c.file.result =
    top_inode (entry_of c.args.key) (file_is c.args.key.code c.file.ensures.file) c.requires.top in
    rw own (c.in-Ok-true.ensures.comes (search rules))
