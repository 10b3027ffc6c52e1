-- Which unit of a memory device a sector is of.
use Rattle.std.specs.Prelude.{ℕ, ◌+◌, ◌-◌, ◌/◌, nat_lt, if◌then◌else◌}
use Rattle.std.specs.Int.NonZero.{non_zero_u32_get}
use Rattle.lfs_device.specs.declared.units.Units.{Units}

-- From `first` on, units of so many sectors. Each sector below is one by itself.
abbrev pub unit_from : ℕ → ℕ → ℕ → ℕ
unit_from sectors first k = if nat_lt k first then k else first + (k - first) / sectors

abbrev pub unit_of : Units → ℕ → ℕ
unit_of units = unit_from (non_zero_u32_get units.sectors) units.first
