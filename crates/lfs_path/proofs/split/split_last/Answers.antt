use Rattle.std.proofs.Common.{rules, refl, length}
use Rattle.lfs_path.proofs.Splits.{no_piece, not_empty, some_piece, splits_further, splits_last}
use Rattle.lfs_path.proofs.split.split_last.Goals as goal

pub returns-then-is_none-clause-some : goal.returns-then-is_none-clause-some
returns-then-is_none-clause-some c =
    splits_last c.loop-piece.invariant c.in-Some.ensures.piece
    (no_piece c.next_piece-in-Some.result c.in-Some.after.now (search rules) c.next_piece-in-Some.ensures.none) refl refl
    (not_empty (length c.in-Some.after.now) c.is_empty.result c.is_empty.ensures)

pub loop-piece-preserved : goal.loop-piece-preserved
loop-piece-preserved c =
    splits_further c.loop-piece.invariant c.in-Some.ensures.piece
    (some_piece (λ x. x.0.now) (λ x. x.1.now) c.next_piece-in-Some.result c.in-Some.after.now (search rules)
    c.next_piece-in-Some.ensures.piece)
