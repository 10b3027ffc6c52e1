-- What was counted of reads, of writes and of a writer, and that writer.
use Rattle.std.specs.Prelude.{ℕ}
use Rattle.lfs_streams.specs.Tallies.{count_of}
use Rattle.lfs_streams.specs.declared.counted.CountedWriter.{CountedWriter}
use Rattle.lfs_streams.specs.declared.reads.ReadCount.{ReadCount}
use Rattle.lfs_streams.specs.declared.writes.WriteCount.{WriteCount}

-- how many reads failed
abbrev pub failed_reads : ReadCount → ℕ
failed_reads c = count_of c.failures

-- how many writes failed, or took nothing
abbrev pub failed_writes : WriteCount → ℕ
failed_writes c = count_of c.failures

-- the same of a writer that counts
abbrev pub failures_of : {W : Type 0} → CountedWriter W → ℕ
failures_of c = count_of c.failures

abbrev pub flushes_of : {W : Type 0} → CountedWriter W → ℕ
flushes_of c = count_of c.flushes

abbrev pub counted_writer : {W : Type 0} → CountedWriter W → W
counted_writer c = c.writer
