use Rattle.lfs_memory.proofs.Going.{ok_then, on_err}
use Rattle.lfs_memory.proofs.CountedFiles.{double_skipped, double_counted, double_fails, double_unread, on_err_then}
use Rattle.lfs_memory.proofs.counting.count_double.Goals as goal

pub returns-then-address-eq0-clause-done : goal.returns-then-address-eq0-clause-done
returns-then-address-eq0-clause-done g c =
    double_skipped (g.D.SectorDevice.state c.args.device.now) (g.D.SectorDevice.state c.args.device.now) c.args.memory.now
    c.args.tail.number c.args.tail.first c.args.counts.now c.if-address-eq0.true

pub returns-clause-done : goal.returns-clause-done
returns-clause-done g c =
    ok_then c.count_leaves.result _ _ (double_counted c.args.memory.now c.args.tail.first _
    c.in_ok-read_present.ensures.ends.looks c.count_leaves.ensures.looks c.double-key.ensures c.if-address-eq0.false c.args.counts.now
    c.in_ok-read_present.ensures.read c.count_leaves.new.counts)
    c.count_leaves.ensures.done

pub returns-clause-failed : goal.returns-clause-failed
returns-clause-failed g c =
    on_err_then c.count_leaves.result _ _ (double_fails c.args.memory.now c.args.tail.first _
    c.in_ok-read_present.ensures.ends.looks c.count_leaves.ensures.looks c.double-key.ensures c.if-address-eq0.false c.args.counts.now
    c.in_ok-read_present.ensures.read)
    c.count_leaves.ensures.failed

pub returns-in_err-read_present-clause-failed : goal.returns-in_err-read_present-clause-failed
returns-in_err-read_present-clause-failed g c =
    on_err c.from_residual.result _
    (double_unread (g.D.SectorDevice.state c.args.device.now) (g.D.SectorDevice.state c.read_present.new.device) c.args.memory.now
    c.args.tail.first _ c.args.counts.now c.double-key.ensures
    c.if-address-eq0.false c.in_err-read_present.ensures.ends.unread)
