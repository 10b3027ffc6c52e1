use Rattle.std.proofs.Common.{◌≡◌, take, flat_map}
use Rattle.std.specs.Io.KnownBytes.{Appends}
use Rattle.lfs_replies.specs.Pieces.{piece_text}
use Rattle.lfs_replies.proofs.piece.put_all.Given as goal

abbrev pub invariant-loop-piece : goal.invariant-loop-piece
invariant-loop-piece g l =
    Appends (g.W.Write.contents l.initial.writer) (g.W.Write.contents l.writer) (flat_map piece_text (take l.piece-index l.pieces))
    × (g.C.CountsWrites.failures l.counter ≡ g.C.CountsWrites.failures l.initial.counter)
