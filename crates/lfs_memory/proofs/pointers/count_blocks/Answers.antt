use Rattle.std.proofs.Common.{◌≡◌, arith}
use Rattle.lfs_memory.proofs.Presents.{looks_failed, looks_then}
use Rattle.lfs_memory.proofs.PointerRuns.{counted_none, counted_more, counted_fault, counted_all}
use Rattle.lfs_memory.proofs.pointers.count_blocks.Goals as goal

pub loop-at-init : goal.loop-at-init
loop-at-init g c = record {
  most = c.requires.order;
  kept = c.requires.kept;
  counted = counted_none;
}

pub loop-at-preserved : goal.loop-at-preserved
loop-at-preserved g c =
    let old = g.D.SectorDevice.state _ in
    let mid = g.D.SectorDevice.state c.loop-at.device in
    let new = g.D.SectorDevice.state _ in
    let was = c.loop-at.invariant in
    let part = c.in_ok-part.ensures in
    record {
      most = part.further.1;
      kept = c.count_part.ensures.kept;
      counted =
          counted_more old mid new c.in_ok-part.part.0
          (g.met.D.SectorDevice.lawful _) was.counted c.count_part.ensures.looks.looks part.looks.no_failure part.further.0
          part.few
          part.answer;
    }

pub returns-in_err-part-clause-looks : goal.returns-in_err-part-clause-looks
returns-in_err-part-clause-looks g c =
    looks_failed c.from_residual.ensures.0
    (looks_then (g.met.D.SectorDevice.lawful c.args.device.now) c.loop-at.invariant.counted.looks c.count_part.ensures.looks.looks)
    (counted_fault (g.D.SectorDevice.state c.count_part.new.device) c.loop-at.invariant.counted c.in_err-part.ensures.looks.failed)

pub returns-clause-answer : goal.returns-clause-answer
returns-clause-answer g c =
    let end : c.loop-at.at ≡ c.args.to = omega arith in
    counted_all end c.loop-at.invariant.counted
