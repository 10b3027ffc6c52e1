use Rattle.std.proofs.Common.{◌≡◌, ◌≢◌, ◌≤◌, ◌+◌, ◌-◌, All, length, vec_len, vec_capacity, slice_range}
use Rattle.std.specs.Io.KnownBytes.{Consumes, Keeps, prepend_known}
use Rattle.lfs_script.specs.Bytes.{ahead}
use Rattle.lfs_script.specs.Heard.{UsesHeard}
use Rattle.lfs_script.proofs.line.next_line.Given as goal

abbrev pub decreases-loop-byte : goal.decreases-loop-byte
decreases-loop-byte g l = 140001 - vec_len l.line

abbrev pub invariant-loop-byte : goal.invariant-loop-byte
invariant-loop-byte g l =
    (140000 ≤ vec_capacity l.line) × (vec_len l.line ≤ 140000) × All (λ b. b ≢ 10) l.line.items
    × Consumes (prepend_known (slice_range l.initial.source.chunk.items l.initial.source.start l.initial.source.end)
    (g.R.Read.remaining l.initial.reader))
    (prepend_known (slice_range l.source.chunk.items l.source.start l.source.end) (g.R.Read.remaining l.reader)) l.line.items
    × Keeps (g.W.Write.contents l.initial.writer) (g.W.Write.contents l.writer)
    × (ahead l.initial.source.start l.initial.source.end l.initial.source.budget
    ≤ length l.line.items + ahead l.source.start l.source.end l.source.budget)
    × (g.C.CountsReads.failures l.initial.counter ≤ g.C.CountsReads.failures l.counter)
    × (g.S.Witness.glances l.witness ≡ g.S.Witness.glances l.initial.witness)
    × UsesHeard (g.S.Witness.heard l.initial.witness) (g.S.Witness.heard l.witness)
    (slice_range l.initial.source.chunk.items l.initial.source.start l.initial.source.end)
    (slice_range l.source.chunk.items l.source.start l.source.end) l.line.items
