use Rattle.std.proofs.Common.{rules, ◌≤◌, length}
use Rattle.lfs_memory.proofs.Removed.{covered_all}
use Rattle.lfs_memory.proofs.removing.are_covered.Goals as goal

pub returns-clause-yes : goal.returns-clause-yes
returns-clause-yes c _ =
    let all : length c.args.counts.now ≤ c.loop-segment.segment = search rules in
    covered_all c.args.usage.now c.args.lives c.args.counts.now c.loop-segment.segment all c.loop-segment.invariant.before
