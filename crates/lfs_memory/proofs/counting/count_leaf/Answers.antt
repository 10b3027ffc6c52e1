use Rattle.std.proofs.Common.{rules}
use Rattle.lfs_memory.proofs.Going.{ok_then, on_err}
use Rattle.lfs_memory.proofs.CountedFiles.{leaf_before, leaf_skipped, leaf_over, leaf_counted, leaf_no_words, leaf_unread, on_err_then}
use Rattle.lfs_memory.proofs.counting.count_leaf.Goals as goal

pub returns-then-start-eq-BLOCK_POINTERS-clause-done : goal.returns-then-start-eq-BLOCK_POINTERS-clause-done
returns-then-start-eq-BLOCK_POINTERS-clause-done g c =
    leaf_before (g.D.SectorDevice.state c.args.device.now) (g.D.SectorDevice.state c.args.device.now) c.args.memory.now c.args.tail.number
    c.args.index c.args.address c.args.counts.now c.pointers_before-start.ensures c.if-start-eq-BLOCK_POINTERS.true

pub returns-then-address-eq0-clause-done : goal.returns-then-address-eq0-clause-done
returns-then-address-eq0-clause-done g c =
    leaf_skipped (g.D.SectorDevice.state c.args.device.now) (g.D.SectorDevice.state c.args.device.now) c.args.memory.now c.args.tail.number
    c.args.index c.args.tail.first c.args.counts.now c.if-address-eq0.true

pub returns-then-not-count_one-clause-failed : goal.returns-then-not-count_one-clause-failed
returns-then-not-count_one-clause-failed g c =
    leaf_over (g.D.SectorDevice.state c.args.device.now) c.args.memory.now c.args.tail.number c.args.index c.args.address
    c.pointers_before-start.ensures c.if-start-eq-BLOCK_POINTERS.false c.args.counts.now
    (g.D.SectorDevice.state c.args.device.now) (c.if-not-count_one.ensures.wanted (search rules))
    (c.if-not-count_one.ensures.over (search rules))

pub returns-clause-done : goal.returns-clause-done
returns-clause-done g c =
    ok_then c.count_words.result _ _
    (leaf_counted (g.D.SectorDevice.state c.args.device.now) c.args.memory.now c.args.tail.number c.args.index c.args.address
    c.pointers_before-start.ensures c.if-start-eq-BLOCK_POINTERS.false c.args.counts.now
    (g.D.SectorDevice.state c.read_present.new.device) _ c.leaf-key.ensures c.if-address-eq0.false
    (c.if-not-count_one.ensures.done (search rules)) c.count_words.new.counts c.in_ok-read_present.ensures.read) c.count_words.ensures.done

pub returns-clause-failed : goal.returns-clause-failed
returns-clause-failed g c =
    on_err_then c.count_words.result _ _
    (leaf_no_words (g.D.SectorDevice.state c.args.device.now) c.args.memory.now c.args.tail.number c.args.index c.args.address
    c.pointers_before-start.ensures c.if-start-eq-BLOCK_POINTERS.false c.args.counts.now
    (g.D.SectorDevice.state c.read_present.new.device) _ c.leaf-key.ensures c.if-address-eq0.false
    (c.if-not-count_one.ensures.done (search rules)) c.in_ok-read_present.ensures.read) c.count_words.ensures.failed

pub returns-in_err-read_present-clause-failed : goal.returns-in_err-read_present-clause-failed
returns-in_err-read_present-clause-failed g c =
    on_err c.from_residual.result _
    (leaf_unread (g.D.SectorDevice.state c.args.device.now) (g.D.SectorDevice.state c.read_present.new.device) c.args.memory.now
    c.args.tail.first _ c.args.counts.now c.leaf-key.ensures
    c.if-address-eq0.false c.in_err-read_present.ensures.ends.unread)
