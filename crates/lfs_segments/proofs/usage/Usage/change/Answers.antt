use Rattle.std.proofs.Common.{rules, ◌≤◌, length, arith}
use Rattle.lfs_segments.proofs.usage.Usage.change.Goals as goal

pub make_stale-requires : goal.make_stale-requires
make_stale-requires c =
    let few : length c.args.self.now.segments ≤ 1024 = search rules in
    omega arith
