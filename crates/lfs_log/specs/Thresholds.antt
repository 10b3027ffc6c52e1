-- How many segments are to be clean before each kind of work, and how many a pass takes, by how many there are.
use Rattle.std.specs.Prelude.{◌<◌, ◌≤◌, ◌+◌, ◌*◌, ◌/◌, ℕ}

-- so many segments are clean before a commit: eight, which it takes at most, and an eighth, which stays clean behind it
abbrev pub reserve_of : ℕ → ℕ
reserve_of segments = segments / 8 + 8

abbrev pub HasReserve : ℕ → ℕ → Type 0
HasReserve segments clean = reserve_of segments ≤ clean

abbrev pub LacksReserve : ℕ → ℕ → Type 0
LacksReserve segments clean = clean < reserve_of segments

-- an eighth of the segments is clean: a pass may begin
abbrev pub IsEighthClean : ℕ → ℕ → Type 0
IsEighthClean segments clean = segments ≤ 8 * clean

-- a quarter is clean: room isn't made
abbrev pub IsQuarterClean : ℕ → ℕ → Type 0
IsQuarterClean segments clean = segments ≤ 4 * clean

-- three sixteenths are clean: a change makes no pass before it
abbrev pub AreThreeSixteenthsClean : ℕ → ℕ → Type 0
AreThreeSixteenthsClean segments clean = 3 * segments ≤ 16 * clean

-- so many segments a pass empties at most
abbrev pub most_victims : ℕ → ℕ
most_victims segments = segments / 8 + 1

-- so many passes make a quarter clean of an eighth at most, for each gains a segment
abbrev pub most_passes : ℕ → ℕ
most_passes segments = segments / 8
