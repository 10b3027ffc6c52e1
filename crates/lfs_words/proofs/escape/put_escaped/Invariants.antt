use Rattle.std.proofs.Common.{◌≡◌, take, flat_map}
use Rattle.std.specs.Io.KnownBytes.{Appends}
use Rattle.lfs_model.specs.Script.{word_byte}
use Rattle.lfs_words.proofs.escape.put_escaped.Given as goal

abbrev pub invariant-loop-byte : goal.invariant-loop-byte
invariant-loop-byte g l =
    Appends (g.W.Write.contents l.initial.writer) (g.W.Write.contents l.writer) (flat_map word_byte (take l.byte-index l.bytes))
    × (g.C.CountsWrites.failures l.counter ≡ g.C.CountsWrites.failures l.initial.counter)
