-- What a recorded writer took, and the writer behind it.
use Rattle.std.specs.Prelude.{ℕ, List}
use Rattle.lfs_script.specs.declared.recorded.Recorded.{Recorded}

abbrev pub taken_by : {W : Type 0} → Recorded W → List ℕ
taken_by r = r.transcript.bytes

abbrev pub writer_of : {W : Type 0} → Recorded W → W
writer_of r = r.writer
