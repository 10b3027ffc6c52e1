-- The names of the faults of a format.
use Rattle.std.specs.Prelude.{ℕ, List, codes}
use Rattle.lfs_format.specs.declared.fault.FormatFault.{FormatFault}
use Rattle.lfs_format.specs.declared.fault.FormatFault.TheVariants as fault

-- the name that a script is told
abbrev pub format_fault_name : FormatFault → List ℕ
format_fault_name fault.Inval = codes "Inval"
format_fault_name fault.TooSmall = codes "TooSmall"
format_fault_name fault.Device = codes "Device"
