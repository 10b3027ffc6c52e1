use Rattle.std.proofs.Common.{rules, ◌∙◌, ap, arith}
use Rattle.std.specs.Prelude.{Err}
use Rattle.lfs_model.specs.Entry.{word}
use Rattle.lfs_memory.proofs.Presents.{inode_failed, looks_failed}
use Rattle.lfs_memory.proofs.PointerRuns.{leaf_run, leaf_run_failed}
use Rattle.lfs_memory.proofs.pointers.read_leaf_run.Goals as goal

pub returns-in-Ok-clause-read : goal.returns-in-Ok-clause-read
returns-in-Ok-clause-read g c =
    let read = c.in_ok-first.ensures.read in
    leaf_run _ _ _ _ c.in_ok-first.ensures.ends.looks (assumption c.leaf_pointers.ensures.follows.looks)
    c.requires.inode.number.some c.requires.inode.is c.requires.inode.there c.inode-inode.ensures c.requires.leaf read.value
    (read.is ∙ ap (word read.shown) c.first_of_leaf.ensures.value)
    c.in-Ok.pointers c.in-Ok.ensures.value

pub returns-in_err-first-clause-looks : goal.returns-in_err-first-clause-looks
returns-in_err-first-clause-looks g c =
    looks_failed c.from_residual.ensures.0 c.present_word.ensures.ends.looks
    (inode_failed (g.D.SectorDevice.state c.args.device.now) (g.D.SectorDevice.state c.present_word.new.device) c.args.memory.now
    c.requires.inode.is c.inode-inode.ensures (λ none. omega (arith, c.requires.inode.there)) c.in_err-first.ensures.ends.unread)

pub returns-in-Err-clause-looks : goal.returns-in-Err-clause-looks
returns-in-Err-clause-looks g c =
    let read = c.in_ok-first.ensures.read in
    record {
      failed =
          leaf_run_failed (g.D.SectorDevice.state c.leaf_pointers.new.device) c.args.memory.now c.args.leaf
          _ c.in_ok-first.ensures.ends.looks
          (assumption c.leaf_pointers.ensures.follows.looks)
          c.requires.inode.number.some c.requires.inode.is c.requires.inode.there c.inode-inode.ensures c.requires.leaf read.value
          (read.is ∙ ap (word read.shown) c.first_of_leaf.ensures.value)
          c.in-Err.field-0 (λ is. c.in-Err.ensures.unreadable (ap Err is))
          (λ is. c.in-Err.ensures.follows.failed (ap Err is));
      no_failure = tt;
      looks = search rules;
    }
