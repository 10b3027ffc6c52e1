-- Whether a tree fits into another volume. The command is an own choice.
use Rattle.std.specs.Prelude.{◌≡◌, ◌⊎◌, ◌<◌, ℕ, List, cond, ◌==◌, length}
use Rattle.std.specs.List.{IsAmong}
use Rattle.std.specs.List.Sorted.{IsPermutation}
use Rattle.lfs_model.specs.declared.limits.TheConstants.{LONGEST_NARROW_NAME, LONGEST_PATH, LONGEST_WIDE_NAME, NARROW_SLOT, WIDE_SLOT}
use Rattle.lfs_fs.specs.entries.declared.rows.TreeRow.{TreeRow}
use Rattle.lfs_copy.specs.Paths.{IsNoPath, IsPathOf}
use Rattle.lfs_copy.specs.declared.fault.CopyFault.{CopyFault}
use Rattle.lfs_copy.specs.declared.fault.CopyFault.TheVariants as why
use Rattle.lfs_copy.specs.declared.fitting.Plan.{Plan}
use Rattle.lfs_copy.specs.declared.looking.Target.{Target}
use Rattle.lfs_copy.specs.declared.looking.Told.{Told}

-- the longest name in a new directory of a volume of this version, and the bytes of its entry
abbrev pub longest_name : ℕ → ℕ
longest_name version = cond (version == 1) LONGEST_NARROW_NAME LONGEST_WIDE_NAME

abbrev pub new_slot : ℕ → ℕ
new_slot version = cond (version == 1) NARROW_SLOT WIDE_SLOT

-- The path of one of these rows is this one, and it is too long, or the name at its end is.
pub record IsTooLong (rows : List TreeRow) (longest : ℕ) (path : List ℕ) : Type 0 where
  pub row : TreeRow
  pub among : IsAmong rows row
  pub is : IsPathOf rows row path
  pub long : (longest < length row.name.items) ⊎ (LONGEST_PATH < length path)

-- by the fault, why names don't fit
abbrev pub IsUnnamed : List TreeRow → ℕ → CopyFault → Type 0
IsUnnamed rows longest (why.TooLong path) = IsTooLong rows longest path.items
IsUnnamed rows longest fault = IsNoPath fault

-- by the fault, why there is too little space
abbrev pub IsTooMuch : ℕ → CopyFault → Type 0
IsTooMuch most (why.TooLarge need limit) = (limit ≡ most) × (limit < need)
IsTooMuch most fault = IsNoPath fault

-- by the fault, why a tree doesn't fit
abbrev pub IsUnfit : Told → Target → CopyFault → Type 0
IsUnfit told target (why.TooLong path) = IsTooLong told.rows.items (longest_name target.version) path.items
IsUnfit told target (why.TooLarge need limit) = (limit ≡ target.limit) × (limit < need)
IsUnfit told target fault = IsNoPath fault

-- the names of a plan are those that were told
abbrev pub IsPlanned : Told → Plan → Type 0
IsPlanned told plan = IsPermutation told.rows.items plan.rows.items
