-- Why a tree doesn't fit.
use Rattle.std.proofs.Common.{◌≡◌, ◌<◌, ◌⊎◌, ℕ, List, length, slice_index_or}
use Rattle.lfs_model.specs.declared.limits.TheConstants.{LONGEST_PATH}
use Rattle.lfs_fs.specs.entries.declared.rows.TreeRow.{TreeRow}
use Rattle.lfs_copy.specs.Fitting.{IsTooLong, IsTooMuch, IsUnfit, IsUnnamed, longest_name}
use Rattle.lfs_copy.specs.Paths.{IsNoPath, IsPathOf}
use Rattle.lfs_copy.specs.declared.fault.CopyFault.{CopyFault}
use Rattle.lfs_copy.specs.declared.fault.CopyFault.TheVariants as why
use Rattle.lfs_copy.specs.declared.looking.Target.{Target}
use Rattle.lfs_copy.specs.declared.looking.Told.{Told}

pub too_long : (rows : List TreeRow) (place : ℕ) (row : TreeRow) (longest : ℕ) (path : List ℕ) → place < length rows
    → row ≡ slice_index_or rows place row → IsPathOf rows row path → (longest < length row.name.items) ⊎ (LONGEST_PATH < length path)
    → IsTooLong rows longest path
too_long rows place row longest path within at leads long = record { row = row; among = (place, (within, at)); is = leads; long = long }

pub unnamed_for : (rows : List TreeRow) (longest : ℕ) (fault : CopyFault) → IsNoPath fault → IsUnnamed rows longest fault
unnamed_for rows longest why.NoTree is = tt
unnamed_for rows longest (why.Memory refused) is = tt
unnamed_for rows longest (why.Old fault) is = absurd is
unnamed_for rows longest (why.New fault) is = absurd is
unnamed_for rows longest why.NotEmpty is = absurd is
unnamed_for rows longest (why.TooLong path) is = absurd is
unnamed_for rows longest (why.TooLarge need limit) is = absurd is

pub unfit_for : (told : Told) (target : Target) (fault : CopyFault) → IsNoPath fault → IsUnfit told target fault
unfit_for told target why.NoTree is = tt
unfit_for told target (why.Memory refused) is = tt
unfit_for told target (why.Old fault) is = absurd is
unfit_for told target (why.New fault) is = absurd is
unfit_for told target why.NotEmpty is = absurd is
unfit_for told target (why.TooLong path) is = absurd is
unfit_for told target (why.TooLarge need limit) is = absurd is

pub unfit_names : (told : Told) (target : Target) (fault : CopyFault)
    → IsUnnamed told.rows.items (longest_name target.version) fault → IsUnfit told target fault
unfit_names told target (why.TooLong path) is = is
unfit_names told target why.NoTree is = tt
unfit_names told target (why.Memory refused) is = tt
unfit_names told target (why.Old fault) is = absurd is
unfit_names told target (why.New fault) is = absurd is
unfit_names told target why.NotEmpty is = absurd is
unfit_names told target (why.TooLarge need limit) is = absurd is

pub unfit_space : (told : Told) (target : Target) (fault : CopyFault) → IsTooMuch target.limit fault → IsUnfit told target fault
unfit_space told target (why.TooLarge need limit) is = is
unfit_space told target why.NoTree is = tt
unfit_space told target (why.Memory refused) is = tt
unfit_space told target (why.Old fault) is = absurd is
unfit_space told target (why.New fault) is = absurd is
unfit_space told target why.NotEmpty is = absurd is
unfit_space told target (why.TooLong path) is = absurd is
