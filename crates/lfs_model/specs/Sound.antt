-- What holds of every state of a volume. The numbers are own choices.
use Rattle.std.specs.Prelude.{ℕ, ◌*◌, ◌<◌, ◌≤◌, ◌≡◌, ◌≢◌, true, List, length, Option, Some, None, T}
use Rattle.std.specs.List.{AllByRecursion}
use Rattle.std.specs.Ordering.{nat_cmp}
use Rattle.std.specs.FinMap.{find, is_sorted}
use Rattle.lfs_model.specs.Bytes.{AreBytes}
use Rattle.lfs_model.specs.Checkpoint.{IsVersion}
use Rattle.lfs_model.specs.Tree.{Node, File, Dir, Link, Tree, State, node, entry, names, links, is_dir, byte_cmp, opened}
use Rattle.lfs_model.specs.Tree.{IsDirectoryForm, name_len}
use Rattle.lfs_model.specs.Walk.{dot, dot_dot}
use Rattle.lfs_model.specs.Need.{need}
use Rattle.lfs_model.specs.declared.limits.TheConstants.{LAST_NUMBER, LARGEST_FILE, LONGEST_PATH, MOST_ENTRIES, MOST_LINKS, MOST_HANDLES}
use Rattle.lfs_model.specs.declared.limits.TheConstants.{NEED_OF_SEGMENT}

-- each name gives a node
abbrev pub NamesGive : Tree → Type 0
NamesGive t = (d : ℕ) (name : List ℕ) (n : ℕ) → entry t d name ≡ Some n → node t n ≢ None

-- n is 1, or a directory that is reached names it
pub data IsReachable (t : Tree) : ℕ → Type 0 where
  root : IsReachable t 1
  below : {d n : ℕ} (name : List ℕ) → IsReachable t d → entry t d name ≡ Some n → IsReachable t n

-- a name of at most this many bytes (POSIX.1-2017, Definitions: Filename)
pub record IsGoodName (limit : ℕ) (name : List ℕ) : Type 0 where
  pub some : 0 < length name
  pub short : length name ≤ limit
  -- neither a zero byte nor a slash
  pub clean : AllByRecursion (λ c. (c ≢ 0) × (c ≢ 47)) name
  pub bytes : AreBytes name
  pub not_dot : name ≢ dot
  pub not_dot_dot : name ≢ dot_dot

-- the limits on one node
abbrev pub IsWithinLimits : Node → Type 0
IsWithinLimits (File b) = (length b ≤ LARGEST_FILE) × AreBytes b
IsWithinLimits (Dir form m) = T (is_sorted byte_cmp m) × (length m ≤ MOST_ENTRIES) × AllByRecursion (λ e. IsGoodName (name_len form) e.0) m
IsWithinLimits (Link text) = (0 < length text) × (length text ≤ LONGEST_PATH) × AllByRecursion (λ c. c ≢ 0) text × AreBytes text

-- a directory's form is one of the version: in version 1 every form is 0
abbrev pub IsOfVersion : ℕ → Node → Type 0
IsOfVersion version (Dir form m) = IsDirectoryForm version form
IsOfVersion version _ = Unit {0}

-- it is a file
abbrev pub IsFile : Option Node → Type 0
IsFile o = (b : List ℕ) × (o ≡ Some (File b))

-- a file that a handle keeps
pub record IsKeptOpen (s : State) (n : ℕ) : Type 0 where
  pub file : IsFile (node s.tree n)
  pub handle : 0 < opened s.handles n

-- a state of a volume of N segments
pub record Sound (N : ℕ) (s : State) : Type 0 where
  pub in_order : T (is_sorted nat_cmp s.tree)
  pub handles_in_order : T (is_sorted nat_cmp s.handles)
  pub version : IsVersion s.version
  pub forms : (n : ℕ) (x : Node) → node s.tree n ≡ Some x → IsOfVersion s.version x
  pub root : is_dir (node s.tree 1) ≡ true
  pub numbers : (n : ℕ) → node s.tree n ≢ None → (1 ≤ n) × (n ≤ LAST_NUMBER)
  pub limits : (n : ℕ) (x : Node) → node s.tree n ≡ Some x → IsWithinLimits x
  pub few_links : (n : ℕ) → node s.tree n ≢ None → links s.tree n ≤ MOST_LINKS
  pub named : NamesGive s.tree
  pub root_unnamed : names s.tree 1 ≡ 0
  -- every directory but the root has one name, and is reached from the root
  pub one_name : (n : ℕ) → n ≢ 1 → is_dir (node s.tree n) ≡ true → names s.tree n ≡ 1
  pub reached : (n : ℕ) → is_dir (node s.tree n) ≡ true → IsReachable s.tree n
  -- what has no name is a file that a handle keeps
  pub held : (n : ℕ) → n ≢ 1 → node s.tree n ≢ None → names s.tree n ≡ 0 → IsKeptOpen s n
  pub handles : (h n : ℕ) → find nat_cmp h s.handles ≡ Some n → (h < MOST_HANDLES) × IsFile (node s.tree n)
  pub room : need s.tree ≤ NEED_OF_SEGMENT * N
