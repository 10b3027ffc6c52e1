use Rattle.std.proofs.Common.{rules, ◌<◌, length}
use Rattle.lfs_segments.proofs.Steps.{release_goes_on}
use Rattle.lfs_segments.proofs.usage.Usage.release_all.Goals as goal

pub loop-segment-preserved : goal.loop-segment-preserved
loop-segment-preserved c =
    let inside : c.loop-segment.segment < length c.loop-segment.self.segments = search rules in
    (release_goes_on c.loop-segment.invariant.0 inside (search rules) c.put.ensures.put, c.loop-segment.invariant.1)
