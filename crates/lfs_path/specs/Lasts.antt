-- The last piece of a path, and the pieces before it.
use Rattle.std.specs.Prelude.{ℕ, ◌≡◌, List, Option, Some, None}
use Rattle.lfs_model.specs.PathText.{comps, slash, but_last, last}
use Rattle.lfs_path.specs.declared.last.Last.{Last}

-- the last piece of a path and its slash end, where it has a piece
abbrev pub HasLast : List ℕ → Option Last → Type 0
HasLast path None = last (comps path) ≡ None
HasLast path (Some l) = (last (comps path) ≡ Some l.name.now) × (slash path ≡ l.slash)

-- The pieces of a text are those before a path's last piece, which is this.
pub record SplitsLast (path above : List ℕ) (l : Last) : Type 0 where
  pub pieces : comps above ≡ but_last (comps path)
  pub piece : last (comps path) ≡ Some l.name.now
  pub slash_end : slash path ≡ l.slash
