use Rattle.std.proofs.Common.{◌≡◌, ◌≤◌, ◌-◌, length, take}
use Rattle.std.specs.Io.KnownBytes.{Appends}
use Rattle.hex.specs.Hex.{encode_lower}
use Rattle.lfs_words.proofs.hexadecimal.put_hex.Given as goal

abbrev pub invariant-loop-at : goal.invariant-loop-at
invariant-loop-at g l = (l.at ≤ length l.bytes)
    × Appends (g.W.Write.contents l.initial.writer) (g.W.Write.contents l.writer) (encode_lower (take l.at l.bytes))
    × (g.C.CountsWrites.failures l.counter ≡ g.C.CountsWrites.failures l.initial.counter)

abbrev pub decreases-loop-at : goal.decreases-loop-at
decreases-loop-at g l = length l.bytes - l.at
