-- How often sectors were read.
use Rattle.std.specs.Prelude.{ℕ, Option, Some, None}
use Rattle.std.specs.List.{slice_get}
use Rattle.lfs_salvage.specs.declared.readings.Readers.{Readers}
use Rattle.lfs_salvage.specs.declared.readings.Readings.{Readings}

-- how many readers there were
abbrev pub count_of : Option Readers → ℕ
count_of (Some readers) = readers.count
count_of None = 0

-- how many readers a sector had
abbrev pub readers_of : Readings → ℕ → ℕ
readers_of readings sector = count_of (slice_get readings.sectors.items sector)
