-- What names of directories give.
use Rattle.std.specs.Prelude.{ℕ, Bool, true, false, Option, Some, None}
use Rattle.lfs_model.specs.declared.Kind.{Kind}
use Rattle.lfs_model.specs.declared.Kind.TheVariants as kind
use Rattle.lfs_entries.specs.declared.entry.Object.{Object}

-- whether an object of this kind has names in it
abbrev pub is_directory : Kind → Bool
is_directory kind.File = false
is_directory kind.Directory = true
is_directory kind.Link = false

-- the number that was found
abbrev pub number_of : Option Object → Option ℕ
number_of None = None
number_of (Some o) = Some o.number.value
