use Rattle.std.proofs.Common.{◌≡◌, take, flat_map, ◌++◌, ◌∷◌, [], length, decimal}
use Rattle.std.specs.Io.KnownBytes.{Appends}
use Rattle.lfs_model.specs.Script.{ok, row_line}
use Rattle.lfs_fs.specs.Answers.{row_of}
use Rattle.lfs_replies.proofs.reply.put_tree.Given as goal

abbrev pub invariant-loop-row : goal.invariant-loop-row
invariant-loop-row g l = Appends (g.W.Write.contents l.fn.writer) (g.W.Write.contents l.writer)
    (ok (decimal (length l.rows) ∷ []) ++ flat_map (λ row. row_line (row_of row)) (take l.row-index l.rows))
    × (g.C.CountsWrites.failures l.counter ≡ g.C.CountsWrites.failures l.fn.counter)
