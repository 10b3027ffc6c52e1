use Rattle.std.proofs.Common.{rules}
use Rattle.lfs_memory.specs.Counting.{FailsInode}
use Rattle.lfs_memory.proofs.Going.{on_err}
use Rattle.lfs_memory.proofs.Going.{ok_then}
use Rattle.lfs_memory.proofs.CountedFiles.{inode_no_words, inode_over, inode_leaf_fails, inode_counted, inode_double_fails, on_err_then}
use Rattle.lfs_memory.proofs.counting.count_inode.Goals as goal

pub returns-in_err-count_words-clause-failed : goal.returns-in_err-count_words-clause-failed
returns-in_err-count_words-clause-failed g c =
    let old = g.D.SectorDevice.state c.args.device.now in
    on_err c.from_residual.result
    (FailsInode old old c.args.memory.now c.args.tail.number c.args.inode.now c.args.tail.first c.args.counts.now)
    (inode_no_words old c.args.memory.now c.args.tail.number c.args.inode.now
    c.pointers_before-direct.ensures c.args.counts.now old c.in_err-count_words.ensures.failed)

pub returns-then-not-count_one-clause-failed : goal.returns-then-not-count_one-clause-failed
returns-then-not-count_one-clause-failed g c =
    let old = g.D.SectorDevice.state c.args.device.now in
    inode_over old c.args.memory.now c.args.tail.number c.args.inode.now
    c.pointers_before-direct.ensures c.args.counts.now c.count_words.new.counts c.in_ok-count_words.ensures.done
    c.word-double.ensures old
    (c.if-not-count_one.ensures.wanted (search rules)) (c.if-not-count_one.ensures.over (search rules))

pub returns-in_err-count_leaf-clause-failed : goal.returns-in_err-count_leaf-clause-failed
returns-in_err-count_leaf-clause-failed g c =
    let old = g.D.SectorDevice.state c.args.device.now in
    let mid = g.D.SectorDevice.state c.count_leaf.new.device in
    on_err c.from_residual-in_err-count_leaf.result
    (FailsInode old mid c.args.memory.now c.args.tail.number c.args.inode.now c.args.tail.first c.args.counts.now)
    (inode_leaf_fails old c.args.memory.now c.args.tail.number c.args.inode.now
    c.pointers_before-direct.ensures c.args.counts.now c.count_words.new.counts c.in_ok-count_words.ensures.done
    c.word-double.ensures (c.if-not-count_one.ensures.done (search rules))
    c.word-single.ensures mid c.in_err-count_leaf.ensures.failed)

pub returns-clause-done : goal.returns-clause-done
returns-clause-done g c =
    let old = g.D.SectorDevice.state c.args.device.now in
    let mid = g.D.SectorDevice.state c.count_leaf.new.device in
    let new = g.D.SectorDevice.state c.count_double.new.device in
    ok_then c.count_double.result _ _ (inode_counted old c.args.memory.now c.args.tail.number c.args.inode.now
    c.pointers_before-direct.ensures c.args.counts.now c.count_words.new.counts c.in_ok-count_words.ensures.done
    c.word-double.ensures (c.if-not-count_one.ensures.done (search rules))
    c.word-single.ensures mid new c.in_ok-count_leaf.ensures.looks
    c.count_double.ensures.looks c.count_leaf.new.counts
    c.in_ok-count_leaf.ensures.done c.count_double.new.counts) c.count_double.ensures.done

pub returns-clause-failed : goal.returns-clause-failed
returns-clause-failed g c =
    let old = g.D.SectorDevice.state c.args.device.now in
    let mid = g.D.SectorDevice.state c.count_leaf.new.device in
    let new = g.D.SectorDevice.state c.count_double.new.device in
    on_err_then c.count_double.result _ _ (inode_double_fails old c.args.memory.now c.args.tail.number c.args.inode.now
    c.pointers_before-direct.ensures c.args.counts.now c.count_words.new.counts c.in_ok-count_words.ensures.done
    c.word-double.ensures (c.if-not-count_one.ensures.done (search rules))
    c.word-single.ensures mid new c.in_ok-count_leaf.ensures.looks
    c.count_double.ensures.looks c.count_leaf.new.counts
    c.in_ok-count_leaf.ensures.done) c.count_double.ensures.failed
