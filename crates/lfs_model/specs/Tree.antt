-- The state of a volume: a tree of numbered nodes, and the open handles.
-- Numbers are POSIX's file serial numbers, handles its file descriptors (POSIX.1-2017, Definitions).
use Rattle.std.specs.Prelude.{◌≡◌, ◌<◌, ◌≤◌, cond}
use Rattle.std.specs.Prelude.{ℕ, zero, suc, ◌+◌, ◌-◌, Bool, true, false, not, ◌&&◌, ◌||◌, List, [], ◌∷◌, ◌==◌, if◌then◌else◌, Option, Some}
use Rattle.std.specs.Prelude.{unwrap_or, option_map, sum_by, count_by}
use Rattle.std.specs.List.{list_any, filter, find as first_that}
use Rattle.std.specs.Ordering.{nat_cmp, eq_by_cmp}
use Rattle.std.specs.declared.cmp.Ordering.{Ordering}
use Rattle.std.specs.Cmp.Lexicographic.{slice_cmp}
use Rattle.std.specs.FinMap.{find, put}
use Rattle.lfs_model.specs.declared.limits.TheConstants.{LAST_SECTOR_VERSION, NARROW_SLOT, WIDE_SLOT}

-- a directory's names with the numbers that they give, in the order of the names' bytes (POSIX.1-2017, Definitions: Directory Entry)
abbrev pub Names : Type 0
Names = List (List ℕ × ℕ)

-- A file with its bytes, a directory with its form and its names, or a symbolic link with its text (POSIX.1-2017, Definitions:
-- Regular File, Directory, Symbolic Link). The form is an own choice: it says how wide the slots of the entries are.
pub data Node : Type 0 where
  File : List ℕ → Node
  Dir : ℕ → Names → Node
  Link : List ℕ → Node

-- the nodes by their numbers, in order
abbrev pub Tree : Type 0
Tree = List (ℕ × Node)

-- the open handles with the numbers of their files, in order
abbrev pub Handles : Type 0
Handles = List (ℕ × ℕ)

-- a volume between two calls; the version of its layout is an own choice
pub record State : Type 0 where
  pub tree : Tree
  pub handles : Handles
  pub version : ℕ

-- node n, where there is one
abbrev pub node : Tree → ℕ → Option Node
node t n = find nat_cmp n t

-- t with x as node n
abbrev pub with_node : Tree → ℕ → Node → Tree
with_node t n x = put nat_cmp n x t

-- what is left of a map without a key
abbrev pub without : {K X : Type 0} → (K → K → Ordering) → K → List (K × X) → List (K × X)
without R k m = filter (λ e. not (eq_by_cmp R k e.0)) m

-- a directory's names; a file or a link has none
abbrev pub names_of : Node → Names
names_of (File b) = []
names_of (Dir form m) = m
names_of (Link text) = []

-- a directory's form; 0 where there is none
abbrev pub form_of : Option Node → ℕ
form_of (Some (Dir form m)) = form
form_of _ = 0

-- whether it is a directory
abbrev pub is_dir : Option Node → Bool
is_dir (Some (Dir form m)) = true
is_dir _ = false

-- the form of the directories that are made in a version: own choice
abbrev pub new_form : ℕ → ℕ
new_form version = cond (version == 1) 0 1

-- The forms of a directory in a version: the first in versions whose units are sectors, the second in all but the first.
abbrev pub IsDirectoryForm : ℕ → ℕ → Type 0
IsDirectoryForm version zero = version ≤ LAST_SECTOR_VERSION
IsDirectoryForm version (suc form) = (form ≡ 0) × (1 < version)

-- the bytes of an entry's slot in a directory of this form: own choice
abbrev pub slot_len : ℕ → ℕ
slot_len zero = NARROW_SLOT
slot_len (suc form) = WIDE_SLOT

-- the longest name in a directory of this form: what the number and the length leave of a slot (POSIX.1-2017, NAME_MAX)
abbrev pub name_len : ℕ → ℕ
name_len form = slot_len form - 5

-- the longest name in directory d
abbrev pub name_limit : Tree → ℕ → ℕ
name_limit t d = name_len (form_of (node t d))

-- the names in directory d
abbrev pub names_in : Tree → ℕ → Names
names_in t d = names_of (unwrap_or (node t d) (File []))

-- the order of names: by their bytes, a beginning before what it begins (own choice)
abbrev pub byte_cmp : List ℕ → List ℕ → Ordering
byte_cmp = slice_cmp nat_cmp

-- the number that a name gives in directory d
abbrev pub entry : Tree → ℕ → List ℕ → Option ℕ
entry t d name = find byte_cmp name (names_in t d)

-- t with the name giving n in directory d
abbrev pub with_name : Tree → ℕ → List ℕ → ℕ → Tree
with_name t d name n = with_node t d (Dir (form_of (node t d)) (put byte_cmp name n (names_in t d)))

-- t without the name in directory d
abbrev pub without_name : Tree → ℕ → List ℕ → Tree
without_name t d name = with_node t d (Dir (form_of (node t d)) (without byte_cmp name (names_in t d)))

-- whether two names are the same bytes
abbrev pub same_name : List ℕ → List ℕ → Bool
same_name [] [] = true
same_name (a ∷ x) (b ∷ y) = a == b && same_name x y
same_name _ _ = false

-- how many pairs of a directory and a name give n
abbrev pub names : Tree → ℕ → ℕ
names t n = sum_by (λ e. count_by (λ x. x.1 == n) (names_of e.1)) t

-- a file's or a link's names (POSIX.1-2017, Definitions: Link Count); of a
-- directory 2 and its subdirectories, as if dot and dot-dot were entries
abbrev pub links_at : Tree → ℕ → Option Node → ℕ
links_at t n (Some (Dir form m)) = 2 + count_by (λ x. is_dir (node t x.1)) m
links_at t n _ = names t n

-- the link count of node n
abbrev pub links : Tree → ℕ → ℕ
links t n = links_at t n (node t n)

-- the directory that names n, and 1 for n = 1 (path_resolution(7): dot-dot in the root is the root)
abbrev pub up : Tree → ℕ → ℕ
up t n = if n == 1 then 1 else unwrap_or (option_map (λ e. e.0) (first_that (λ e. list_any (λ x. x.1 == n) (names_of e.1)) t)) 1

-- the first number from a on that no key of m is, the keys being in order and none below a
abbrev pub least_from : {X : Type 0} → ℕ → List (ℕ × X) → ℕ
least_from a [] = a
least_from a (e ∷ m) = if e.0 == a then least_from (a + 1) m else least_from a m

-- the least number from 1 on that is not in t: own choice
abbrev pub least : Tree → ℕ
least t = least_from 1 t

-- the least handle from 0 on that is free (POSIX.1-2017, 2.14 File Descriptor Allocation)
abbrev pub least_handle : Handles → ℕ
least_handle h = least_from 0 h

-- how many handles give file n
abbrev pub opened : Handles → ℕ → ℕ
opened h n = count_by (λ e. e.1 == n) h

-- What a mount finds after a stop: no handles, and no node that has no name; 1 stays (POSIX.1-2017, unlink: the file lives until
-- its last name and its last open descriptor are gone).
abbrev pub drop_nameless : State → State
drop_nameless s = record s { tree = filter (λ e. e.0 == 1 || not (names s.tree e.0 == 0)) s.tree; handles = [] }
