-- The pieces of a path, one after the other.
use Rattle.std.specs.Prelude.{ℕ, ◌≡◌, ◌<◌, ◌-◌, ◌==◌, ◌||◌, Bool, false, nat_lt, List, [], ◌∷◌, length, drop, if◌then◌else◌}
use Rattle.lfs_model.specs.PathText.{comps, slash, from_root}
use Rattle.lfs_model.specs.Tree.{same_name}
use Rattle.lfs_model.specs.Walk.{dot, dot_dot, more}

-- a byte of a slash
abbrev pub is_slash : ℕ → Bool
is_slash c = c == 47

-- dot or dot-dot: in the root both stay there
abbrev pub is_dots : List ℕ → Bool
is_dots piece = same_name piece dot || same_name piece dot_dot

-- The first piece of a path, and the text behind it.
pub record IsNextPiece (path piece rest : List ℕ) : Type 0 where
  pub pieces : comps path ≡ piece ∷ comps rest
  pub slash_end : slash path ≡ slash rest
  -- a piece or a slash end is left where any text is
  pub goes_on : more (comps rest) (slash rest) ≡ nat_lt 0 (length rest)
  pub shorter : length rest < length path
  -- the text behind it is the path's end, and is empty or begins with a slash
  pub behind : rest ≡ drop (length path - length rest) path
  pub begins : from_root rest ≡ nat_lt 0 (length rest)
