use Rattle.std.proofs.Common.{◌-◌}
use Rattle.lfs_path.proofs.PathWalks.{ComesOn}
use Rattle.lfs_path.proofs.walking.walk.Given as goal

abbrev pub invariant-loop-chain : goal.invariant-loop-chain
invariant-loop-chain g l =
    ComesOn l.slash_end l.follow l.path (g.F.Files.state l.initial.files) (g.F.Files.state l.files) l.chain l.text.items l.links

abbrev pub decreases-loop-chain : goal.decreases-loop-chain
decreases-loop-chain g l = 41 - l.links
