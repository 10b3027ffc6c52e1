-- The walk of a path (POSIX.1-2017, 4.13 Pathname Resolution; path_resolution(7)).
use Rattle.std.specs.Prelude.{ℕ, ◌+◌, ◌≡◌, ◌≢◌, ◌<◌, ◌≤◌, Bool, true, false, ◌||◌, List, [], ◌∷◌, ◌++◌, length, Some, None, if◌then◌else◌}
use Rattle.std.specs.Prelude.{MatchOption}
use Rattle.lfs_model.specs.Tree.{Tree, Node, File, Dir, Link, Names, node, entry, up, name_limit}
use Rattle.lfs_model.specs.PathText.{comps, slash, from_root, but_last, text_refusal}
use Rattle.lfs_model.specs.Refusal.{Refusal, NoEntry, NotDir, NameTooLong, Loop}
use Rattle.lfs_model.specs.declared.limits.TheConstants.{MOST_FOLLOWED}

-- where a walk ends: at a node, or refused
pub data End : Type 0 where
  At : ℕ → End
  Refused : Refusal → End

-- the piece "." (POSIX.1-2017, Definitions: Dot)
abbrev pub dot : List ℕ
dot = 46 ∷ []

-- the piece ".." (POSIX.1-2017, Definitions: Dot-Dot)
abbrev pub dot_dot : List ℕ
dot_dot = 46 ∷ 46 ∷ []

-- a piece that is looked up in d
pub record IsLookedUp (t : Tree) (d : ℕ) (piece : List ℕ) : Type 0 where
  pub not_dot : piece ≢ dot
  pub not_dot_dot : piece ≢ dot_dot
  pub short : length piece ≤ name_limit t d

-- the piece is a name in d that gives node n, which is x
pub record Gives (t : Tree) (d : ℕ) (piece : List ℕ) (n : ℕ) (x : Node) : Type 0 where
  pub is_name : IsLookedUp t d piece
  pub is_there : entry t d piece ≡ Some n
  pub is_node : node t n ≡ Some x

-- a piece is left, or the path has a slash end
abbrev pub more : List (List ℕ) → Bool → Bool
more [] s = s
more (p ∷ ps) s = true

-- a link's text is walked from the root, or from the directory that the link stands in (POSIX.1-2017, 4.13)
abbrev pub start : List ℕ → ℕ → ℕ
start text d = if from_root text then 1 else d

-- a slash end of a link's text counts where no piece was left, and then for the rest of the walk
abbrev pub slash_with : List ℕ → List (List ℕ) → Bool → Bool
slash_with text [] s = slash text || s
slash_with text (p ∷ ps) s = s

-- From directory d, with the pieces ps and the slash end s that are left and k links followed, the walk ends so: one rule a case.
-- Dot stays, dot-dot goes to the directory that names this one, a directory becomes the current one; a file, or a link that isn't
-- followed, is the end where nothing is left. The 41st link is refused (path_resolution(7): at most 40).
pub data Walk (t : Tree) (follow : Bool) : ℕ → List (List ℕ) → Bool → ℕ → End → Type 0 where
  no_piece : {d : ℕ} {s : Bool} {k : ℕ} → Walk t follow d [] s k (At d)
  stays : {d : ℕ} {piece : List ℕ} {ps : List (List ℕ)} {s : Bool} {k : ℕ} {e : End}
      → piece ≡ dot → Walk t follow d ps s k e → Walk t follow d (piece ∷ ps) s k e
  goes_up : {d : ℕ} {piece : List ℕ} {ps : List (List ℕ)} {s : Bool} {k : ℕ} {e : End}
      → piece ≡ dot_dot → Walk t follow (up t d) ps s k e → Walk t follow d (piece ∷ ps) s k e
  too_long : {d : ℕ} {piece : List ℕ} {ps : List (List ℕ)} {s : Bool} {k : ℕ}
      → name_limit t d < length piece → Walk t follow d (piece ∷ ps) s k (Refused NameTooLong)
  not_there : {d : ℕ} {piece : List ℕ} {ps : List (List ℕ)} {s : Bool} {k : ℕ}
      → IsLookedUp t d piece → entry t d piece ≡ None → Walk t follow d (piece ∷ ps) s k (Refused NoEntry)
  directory : {d n form : ℕ} {m : Names} {piece : List ℕ} {ps : List (List ℕ)} {s : Bool} {k : ℕ} {e : End}
      → Gives t d piece n (Dir form m) → Walk t follow n ps s k e → Walk t follow d (piece ∷ ps) s k e
  file : {d n : ℕ} {b : List ℕ} {piece : List ℕ} {ps : List (List ℕ)} {s : Bool} {k : ℕ}
      → Gives t d piece n (File b) → more ps s ≡ false → Walk t follow d (piece ∷ ps) s k (At n)
  not_dir : {d n : ℕ} {b : List ℕ} {piece : List ℕ} {ps : List (List ℕ)} {s : Bool} {k : ℕ}
      → Gives t d piece n (File b) → more ps s ≡ true → Walk t follow d (piece ∷ ps) s k (Refused NotDir)
  link : {d n : ℕ} {text : List ℕ} {piece : List ℕ} {ps : List (List ℕ)} {s : Bool} {k : ℕ}
      → Gives t d piece n (Link text) → more ps s || follow ≡ false → Walk t follow d (piece ∷ ps) s k (At n)
  loops : {d n : ℕ} {text : List ℕ} {piece : List ℕ} {ps : List (List ℕ)} {s : Bool} {k : ℕ}
      → Gives t d piece n (Link text) → more ps s || follow ≡ true → MOST_FOLLOWED ≤ k → Walk t follow d (piece ∷ ps) s k (Refused Loop)
  followed : {d n : ℕ} {text : List ℕ} {piece : List ℕ} {ps : List (List ℕ)} {s : Bool} {k : ℕ} {e : End}
      → Gives t d piece n (Link text) → more ps s || follow ≡ true → k < MOST_FOLLOWED
      → Walk t follow (start text d) (comps text ++ ps) (slash_with text ps s) (k + 1) e → Walk t follow d (piece ∷ ps) s k e

-- the end of a path: its text's refusal, or the walk's end
abbrev pub Ends : List ℕ → (End → Type 0) → End → Type 0
Ends p W e = MatchOption (text_refusal p) (W e) (λ r. e ≡ Refused r)

-- The walk of the whole path, from the root: a relative path starts there too, since there is no current directory (own choice).
abbrev pub Resolve : Tree → List ℕ → Bool → End → Type 0
Resolve t p follow = Ends p (Walk t follow 1 (comps p) (slash p) 0)

-- the directory that the last piece stands in: the walk of the other pieces, which must end at a directory
abbrev pub Parent : Tree → List ℕ → End → Type 0
Parent t p = Ends p (Walk t true 1 (but_last (comps p)) true 0)
