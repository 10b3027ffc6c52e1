use Rattle.std.proofs.Common.{◌≡◌}
use Rattle.lfs_segments.proofs.Listed.{ReleasesListed}
use Rattle.lfs_segments.proofs.usage.Usage.release_listed.Given as goal

abbrev pub invariant-loop-at : goal.invariant-loop-at
invariant-loop-at l = ReleasesListed l.fn.self l.self l.list l.at × (l.at-end ≡ l.list.count)
