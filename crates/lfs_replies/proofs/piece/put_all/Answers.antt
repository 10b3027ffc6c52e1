use Rattle.std.proofs.Common.{ap, suc, ◌∙◌}
use Rattle.lfs_replies.specs.Pieces.{piece_text}
use Rattle.lfs_words.proofs.Pieces.{puts_some}
use Rattle.lfs_words.proofs.PieceTexts.{pieces-some}
use Rattle.lfs_replies.proofs.piece.put_all.Goals as goal

pub returns-in_err-put_piece : goal.returns-in_err-put_piece
returns-in_err-put_piece g c =
    puts_some _ _ c.from_residual.ensures.1
    (pieces-some piece_text _ _ _ c.args.pieces.now c.loop-piece.piece-index _ c.loop-piece-test.true c.loop-piece.invariant.0
    c.in_err-put_piece.ensures.err) (c.in_err-put_piece.ensures.counted ∙ ap (λ n. suc n) c.loop-piece.invariant.1)
