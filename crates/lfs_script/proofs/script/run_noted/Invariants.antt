use Rattle.std.proofs.Common.{◌≡◌, ◌≤◌, ◌+◌, ◌-◌, ◌^◌, [], length, slice_range, vec_capacity}
use Rattle.std.specs.Io.KnownBytes.{prepend_known}
use Rattle.lfs_fs.specs.Seen.{seen}
use Rattle.lfs_script.specs.Bytes.{ahead}
use Rattle.lfs_script.specs.Ending.{ended_texts}
use Rattle.lfs_script.specs.Heard.{UsesHeard}
use Rattle.lfs_script.specs.Running.{SoFar}
use Rattle.lfs_script.proofs.script.run_noted.Given as goal

abbrev pub invariant-loop-count : goal.invariant-loop-count
invariant-loop-count g l = (140000 ≤ vec_capacity l.line)
    × (so : SoFar g.D.SectorDevice.state l.fn.strict l.count (g.R.Read.remaining l.fn.reader)
    (prepend_known (slice_range l.source.chunk.items l.source.start l.source.end) (g.R.Read.remaining l.reader)) (g.W.Write.contents
    l.fn.writer) (g.W.Write.contents l.writer) (seen l.fn.fs) (seen l.fs) (g.S.Witness.glances l.fn.witness)
    (g.S.Witness.glances l.witness))
    × (2 ^ 64 - 1 ≤ length (ended_texts so.texts) + ahead l.source.start l.source.end l.source.budget)
    × (g.C.CountsReads.failures l.fn.reads ≤ g.C.CountsReads.failures l.reads)
    × UsesHeard (g.S.Witness.heard l.fn.witness) (g.S.Witness.heard l.witness) []
    (slice_range l.source.chunk.items l.source.start l.source.end) (ended_texts so.texts)
    × (g.K.CountsWrites.failures l.writes ≡ g.K.CountsWrites.failures l.fn.writes)
