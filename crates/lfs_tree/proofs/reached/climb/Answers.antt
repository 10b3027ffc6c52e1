use Rattle.std.proofs.Common.{◌<◌, length, arith}
use Rattle.lfs_tree.proofs.Climbing.{fewer_left, way_begins, way_done, way_goes_on}
use Rattle.lfs_tree.proofs.reached.climb.Goals as goal

pub loop-marks-init : goal.loop-marks-init
loop-marks-init c = record {
  few = (omega arith);
  way = way_begins c.args.tables.now.up c.args.marks.now c.args.start.value c.requires;
}

pub loop-marks-smaller : goal.loop-marks-smaller
loop-marks-smaller c =
    let some = c.requires in
    let inside : c.loop-marks.at < length c.loop-marks.marks = omega arith in
    rw c.set.ensures (fewer_left c.loop-marks.marks c.loop-marks.at c.args.start.value inside (cc) (omega arith) c.loop-marks.invariant.few)

pub loop-marks-preserved : goal.loop-marks-preserved
loop-marks-preserved c =
    let few = c.loop-marks.invariant.few in
    let inside : c.loop-marks.at < length c.loop-marks.marks = omega arith in
    record {
      few = c.up-at.ensures.inside;
      way = λ marked.
          rw (c.set.ensures, c.up-at.ensures.value) (way_goes_on c.args.tables.now.up c.args.marks.now c.args.start.value c.requires
          c.loop-marks.marks c.loop-marks.at (c.loop-marks.invariant.way marked) inside
          (cc));
    }

pub returns : goal.returns
returns c marked =
    way_done c.args.tables.now.up c.args.marks.now c.args.start.value c.requires c.loop-marks.marks c.loop-marks.at
    (c.loop-marks.invariant.way marked) (omega arith) c.get-2.ensures.value
