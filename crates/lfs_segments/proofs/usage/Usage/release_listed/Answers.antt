use Rattle.std.proofs.Common.{rules, arith, ◌<◌, ◌≤◌, length}
use Rattle.lfs_segments.proofs.Listed.{listed_goes_on, listed_ends}
use Rattle.lfs_segments.proofs.usage.Usage.release_listed.Goals as goal

pub state-requires : goal.state-requires
state-requires c =
    let low : c.loop-at.at < c.args.list.now.count = search (rules, arith) in
    omega (arith, c.requires.listed.inside c.loop-at.at low)

pub loop-at-preserved : goal.loop-at-preserved
loop-at-preserved c =
    let low : c.loop-at.at < c.args.list.now.count = search (rules, arith) in
    let inside : c.get-segment.result < length c.loop-at.self.segments = omega (arith, c.requires.listed.inside c.loop-at.at low) in
    (listed_goes_on c.loop-at.invariant.0 c.get-segment.ensures inside (search rules) c.put.ensures.put, c.loop-at.invariant.1)

pub returns : goal.returns
returns c =
    let past : c.args.list.now.count ≤ c.loop-at.at = search (rules, arith) in
    listed_ends c.loop-at.invariant.0 past c.requires.listed c.requires.all
