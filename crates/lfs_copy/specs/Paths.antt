-- Which path leads to a name, by the rows of a tree. The command is an own choice.
use Rattle.std.specs.Prelude.{◌≢◌, ◌<◌, ℕ, List, ◌∷◌, ◌++◌, length, slice_index_or}
use Rattle.std.specs.List.{IsAmong}
use Rattle.lfs_fs.specs.entries.declared.rows.TreeRow.{TreeRow}
use Rattle.lfs_copy.specs.declared.fault.CopyFault.{CopyFault}
use Rattle.lfs_copy.specs.declared.fault.CopyFault.TheVariants as why

-- By these rows a path leads from a directory to the name of a row: it has a slash and a name for each directory on the way, and for
-- the row.
pub data LeadsTo (rows : List TreeRow) (row : TreeRow) : ℕ → List ℕ → Type 0 where
  at_name : LeadsTo rows row row.directory (47 ∷ row.name.items)
  through : (above : TreeRow) (path : List ℕ) → IsAmong rows above → LeadsTo rows row above.number path
      → LeadsTo rows row above.directory (47 ∷ (above.name.items ++ path))

-- a path leads so from the root
abbrev pub IsPathOf : List TreeRow → TreeRow → List ℕ → Type 0
IsPathOf rows row = LeadsTo rows row 1

-- none of the first rows, so many, gives this number
abbrev pub NoneBefore : List TreeRow → ℕ → ℕ → Type 0
NoneBefore rows number count = (k : ℕ) (d : TreeRow) → k < count → (slice_index_or rows k d).number ≢ number

-- for each number a place before which no row gives it
abbrev pub AreFirsts : List TreeRow → List ℕ → Type 0
AreFirsts rows firsts = (number : ℕ) (d : ℕ) → number < length firsts → NoneBefore rows number (slice_index_or firsts number d)

-- why there is no path: memory is refused, or no tree has these rows
abbrev pub IsNoPath : CopyFault → Type 0
IsNoPath (why.Memory refused) = Unit {0}
IsNoPath why.NoTree = Unit {0}
IsNoPath fault = ⊥
