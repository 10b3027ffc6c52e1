use Rattle.std.proofs.Common.{length}
use Rattle.lfs_path.proofs.TextWalks.{ComesTo}
use Rattle.lfs_path.proofs.passing.walk_text.Given as goal

abbrev pub invariant-loop-piece : goal.invariant-loop-piece
invariant-loop-piece g l =
    ComesTo l.slash_end l.follow (g.F.Files.state l.initial.files) (g.F.Files.state l.files) l.initial.chain l.text l.chain l.rest

abbrev pub decreases-loop-piece : goal.decreases-loop-piece
decreases-loop-piece g l = length l.rest
