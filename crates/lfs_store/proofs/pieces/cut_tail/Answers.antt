use Rattle.std.proofs.Common.{rules, refl}
use Rattle.lfs_store.proofs.PiecesLaid.{filled_tail}
use Rattle.lfs_store.proofs.pieces.cut_tail.Goals as goal

pub returns : goal.returns
returns c = filled_tail _ _ _ (search rules) c.requires c.fill.ensures.len
    (λ k d lt. c.fill.ensures.clones k d lt refl)
