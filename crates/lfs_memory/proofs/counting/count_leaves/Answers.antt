use Rattle.std.proofs.Common.{arith, refl}
use Rattle.lfs_memory.specs.Counting.{FailsLeaves}
use Rattle.lfs_memory.proofs.Going.{on_err}
use Rattle.lfs_memory.proofs.Presents.{looks_none, looks_then}
use Rattle.lfs_memory.proofs.CountedFiles.{leaves_none, leaves_more, leaves_fail, leaves_end}
use Rattle.lfs_memory.proofs.counting.count_leaves.Goals as goal

pub loop-index-init : goal.loop-index-init
loop-index-init g c = record {
  counts =
      leaves_none (g.D.SectorDevice.state c.args.device.now) (g.D.SectorDevice.state c.args.device.now) c.args.memory.now c.args.tail.number
      c.args.root.now c.args.tail.first c.args.counts.now;
  looks = looks_none (g.D.SectorDevice.state c.args.device.now);
  no_failure = refl;
}

pub loop-index-preserved : goal.loop-index-preserved
loop-index-preserved g c =
    let old = g.D.SectorDevice.state c.args.device.now in
    let mid = g.D.SectorDevice.state c.loop-index.device in
    let new = g.D.SectorDevice.state c.count_leaf.new.device in
    let was = c.loop-index.invariant in
    let now = c.in_ok-count_leaf.ensures in
    record {
      counts = leaves_more old mid new c.args.memory.now c.args.tail.number c.args.root.now c.loop-index.index c.args.tail.first
          was.looks now.looks c.word-address.ensures
          c.args.counts.now c.loop-index.counts was.counts c.count_leaf.new.counts now.done;
      looks = looks_then (g.met.D.SectorDevice.lawful c.args.device.now) was.looks now.looks;
      no_failure = cc;
    }

pub returns-clause-done : goal.returns-clause-done
returns-clause-done g c =
    leaves_end (g.D.SectorDevice.state c.args.device.now) (g.D.SectorDevice.state c.loop-index.device) c.args.memory.now c.args.tail.number
    c.args.root.now c.loop-index.index 128 c.args.tail.first
    c.args.counts.now c.loop-index.counts (omega arith) c.loop-index.invariant.counts

pub returns-in_err-count_leaf-clause-failed : goal.returns-in_err-count_leaf-clause-failed
returns-in_err-count_leaf-clause-failed g c =
    let old = g.D.SectorDevice.state c.args.device.now in
    let mid = g.D.SectorDevice.state c.loop-index.device in
    let new = g.D.SectorDevice.state c.count_leaf.new.device in
    on_err c.from_residual.result
    (FailsLeaves old new c.args.memory.now c.args.tail.number c.args.root.now 128 c.args.tail.first c.args.counts.now)
    (leaves_fail old mid new c.args.memory.now c.args.tail.number c.args.root.now c.loop-index.index c.args.tail.first
    c.loop-index.invariant.looks c.in_err-count_leaf.ensures.looks
    c.word-address.ensures
    c.args.counts.now c.loop-index.counts c.loop-index.invariant.counts 128
    c.loop-index-test.true c.in_err-count_leaf.ensures.failed)
