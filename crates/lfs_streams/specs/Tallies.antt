-- The number that a tally stands for.
use Rattle.std.specs.Prelude.{ℕ, zero, suc}
use Rattle.lfs_streams.specs.declared.tally.Tally.{Tally}
use Rattle.lfs_streams.specs.declared.tally.Times.{Times, Never, After'}

abbrev pub times : Times → ℕ
times Never = zero
times (After' mark before) = suc (times before)

abbrev pub count_of : Tally → ℕ
count_of t = times t.times.value
