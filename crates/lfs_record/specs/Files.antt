-- Which entries of the root are a recorder's.
use Rattle.std.specs.Prelude.{ℕ, ◌&&◌, Bool, true, false, cond, List, [], ◌∷◌, Option, Some, None, nat_lt, count_by}
use Rattle.std.specs.List.{find}
use Rattle.lfs_model.specs.Call.{DirectoryEntry}
use Rattle.lfs_model.specs.declared.Kind.{Kind}
use Rattle.lfs_model.specs.declared.Kind.TheVariants.{Directory, File, Link}
use Rattle.lfs_record.specs.Names.{is_name, number_of}

-- it is a file
abbrev pub is_file : Kind → Bool
is_file Directory = false
is_file File = true
is_file Link = false

-- it is a recorder's file
abbrev pub is_recorded : DirectoryEntry → Bool
is_recorded entry = is_file entry.kind && is_name entry.name

-- it is one whose number is below this one
abbrev pub is_older : ℕ → DirectoryEntry → Bool
is_older number entry = is_recorded entry && nat_lt (number_of entry.name) number

-- how many of these entries are a recorder's files
abbrev pub count_files : List DirectoryEntry → ℕ
count_files = count_by is_recorded

-- the oldest of a recorder's files whose number is below this one: entries are listed by the bytes of their names, and so by their
-- numbers
abbrev pub oldest : ℕ → List DirectoryEntry → Option DirectoryEntry
oldest number = find (is_older number)

-- the last of these, or this entry where it has a name of a recorder's
abbrev pub or_this : Option DirectoryEntry → DirectoryEntry → Option DirectoryEntry
or_this (Some entry) this = Some entry
or_this None this = cond (is_name this.name) (Some this) None

-- the newest entry that has a name of a recorder's
abbrev pub newest : List DirectoryEntry → Option DirectoryEntry
newest [] = None
newest (entry ∷ entries) = or_this (newest entries) entry
