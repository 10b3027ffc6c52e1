use Rattle.std.proofs.Common.{◌≡◌, take, flat_map, ◌++◌, ◌∷◌, [], length, decimal}
use Rattle.std.specs.Io.KnownBytes.{Appends}
use Rattle.lfs_model.specs.Script.{ok, entry_line}
use Rattle.lfs_fs.specs.Answers.{entry_of}
use Rattle.lfs_replies.proofs.reply.put_entries.Given as goal

abbrev pub invariant-loop-entry : goal.invariant-loop-entry
invariant-loop-entry g l = Appends (g.W.Write.contents l.fn.writer) (g.W.Write.contents l.writer)
    (ok (decimal (length l.entries) ∷ []) ++ flat_map (λ entry. entry_line (entry_of entry)) (take l.entry-index l.entries))
    × (g.C.CountsWrites.failures l.counter ≡ g.C.CountsWrites.failures l.fn.counter)
