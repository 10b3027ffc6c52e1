-- The calls, row by row: what refuses each, in the order in which it is checked, and then its answer and its change.
-- The meanings are those of POSIX.1-2017 for the call named beside each row; the order of the refusals is an own choice.
use Rattle.std.specs.Prelude.{ℕ, ◌+◌, ◌*◌, ◌≡◌, cond, Bool, true, false, not, ◌&&◌, ◌||◌, List, [], ◌∷◌, ◌++◌, map, length, take, ◌==◌}
use Rattle.std.specs.Prelude.{if◌then◌else◌, nat_lt, nat_le, is_some, is_none, unwrap_or, option_map, flat_map, suc, zero}
use Rattle.std.specs.List.{list_any}
use Rattle.std.specs.Ordering.{nat_cmp}
use Rattle.std.specs.FinMap.{find, put}
use Rattle.lfs_model.specs.Bytes as bytes
use Rattle.lfs_model.specs.Tree.{Node, File, Dir, Link, Tree, Handles, State, node, with_node, without, is_dir, names_of, names_in, entry}
use Rattle.lfs_model.specs.Tree.{with_name, without_name, same_name, names, links, up, least, least_handle, opened, slot_len, form_of}
use Rattle.lfs_model.specs.Tree.{name_limit, new_form}
use Rattle.lfs_model.specs.PathText.{comps, slash, last, text_refusal}
use Rattle.lfs_model.specs.Refusal.{Refusal, NoEntry, NotDir, IsDir, Exist, NotEmpty, Inval, NameTooLong, Perm, Busy, BadHandle}
use Rattle.lfs_model.specs.Refusal.{TooManyOpen, TooManyLinks, FileTooBig, NoSpace, NoNumber, DirFull}
use Rattle.lfs_model.specs.Walk.{End, At, Refused, dot, dot_dot, Resolve, Parent}
use Rattle.lfs_model.specs.Need.{need, data_blocks, meta_blocks}
use Rattle.lfs_model.specs.Call.{Call, Open, Create, Close, Pread, Pwrite, Truncate, Mkdir, LinkTo, Symlink, Readlink, Unlink, Rmdir}
use Rattle.lfs_model.specs.Call.{Rename, StatOf, LstatOf, Readdir, Fsync, Sync, Clean, Space, Version, Upgrade, Widen, ListTree, Stat}
use Rattle.lfs_model.specs.Call.{DirectoryEntry, TreeRow, Answer, Refuse, Done, Handle, Count, Data, Text, Status, Entries, Room}
use Rattle.lfs_model.specs.Call.{FormatVersion, Rows}
use Rattle.lfs_model.specs.declared.Kind.{Kind}
use Rattle.lfs_model.specs.declared.Kind.TheVariants as kinds
use Rattle.lfs_model.specs.declared.limits.TheConstants.{LAST_NUMBER, LARGEST_FILE, MOST_ENTRIES, MOST_LINKS, MOST_HANDLES}
use Rattle.lfs_model.specs.declared.limits.TheConstants.{LONGEST_TRANSFER, NEED_OF_SEGMENT}

-- what a node is
abbrev pub kind_of : Node → Kind
kind_of (File b) = kinds.File
kind_of (Dir form m) = kinds.Directory
kind_of (Link text) = kinds.Link

-- its size in bytes (POSIX.1-2017, stat: st_size; a directory's is an own choice)
abbrev pub size_of : Node → ℕ
size_of (File b) = length b
size_of (Dir form m) = slot_len form * length m
size_of (Link text) = length text

-- node n, which is there
abbrev pub the_node : Tree → ℕ → Node
the_node t n = unwrap_or (node t n) (File [])

-- what stat tells of node n
abbrev pub stat_of : Tree → ℕ → Stat
stat_of t n = record { number = n; kind = kind_of (the_node t n); links = links t n; size = size_of (the_node t n) }

-- what readdir tells of an entry
abbrev pub entry_of : Tree → List ℕ × ℕ → DirectoryEntry
entry_of t e = record { name = e.0; number = e.1; kind = kind_of (the_node t e.1) }

-- a file's first bytes, a link's whole text
abbrev pub head_of : Node → List ℕ
head_of (File b) = take 16 b
head_of (Dir form m) = []
head_of (Link text) = text

-- every entry of every directory, by the directory's number and then by the name's bytes
abbrev pub rows_of : Tree → List TreeRow
rows_of t = flat_map
    (λ d. map (λ e. record { directory = d.0; name = e.0; stat = stat_of t e.1; head = head_of (the_node t e.1) }) (names_of d.1)) t

-- whether it is a link
abbrev pub is_link : Node → Bool
is_link (Link text) = true
is_link _ = false

-- a file's bytes
abbrev pub file_bytes : Node → List ℕ
file_bytes (File b) = b
file_bytes _ = []

-- the first answer whose condition holds leaves the state; else the row's answer and change
abbrev pub checked : State → List (Bool × Answer) → Answer × State → Answer × State
checked s [] otherwise = otherwise
checked s (c ∷ cs) otherwise = if c.0 then (c.1, s) else checked s cs otherwise

-- what follows a walk that isn't refused
abbrev pub reached : State → End → (ℕ → Answer × State) → Answer × State
reached s (At n) f = f n
reached s (Refused r) f = (Refuse r, s)

-- a condition and the refusal that it gives
abbrev pub when : Bool → Refusal → Bool × Answer
when b r = (b, Refuse r)

-- what refuses a text, as a path or as a link's
abbrev pub text_check : List ℕ → List (Bool × Answer)
text_check p = unwrap_or (option_map (λ r. when true r ∷ []) (text_refusal p)) []

-- a path's last piece, where there is one
abbrev pub name : List ℕ → List ℕ
name p = unwrap_or (last (comps p)) []

-- the path has no piece: it is the root
abbrev pub no_last : List ℕ → Bool
no_last p = is_none (last (comps p))

-- the last piece is dot or dot-dot
abbrev pub last_dots : List ℕ → Bool
last_dots p = same_name (name p) dot || same_name (name p) dot_dot

-- the last piece is longer than a name in d may be
abbrev pub is_long : Tree → ℕ → List ℕ → Bool
is_long t d p = nat_lt (name_limit t d) (length (name p))

-- the last piece is a name in d
abbrev pub is_there : Tree → ℕ → List ℕ → Bool
is_there t d p = is_some (entry t d (name p))

-- the number that it gives there
abbrev pub target : Tree → ℕ → List ℕ → ℕ
target t d p = unwrap_or (entry t d (name p)) 0

-- it gives a directory
abbrev pub gives_dir : Tree → ℕ → List ℕ → Bool
gives_dir t d p = is_dir (node t (target t d p))

-- d has no room for one more name
abbrev pub is_full : Tree → ℕ → Bool
is_full t d = nat_le MOST_ENTRIES (length (names_in t d))

-- what refuses a name that is to be there: unlink's, and link's first
abbrev pub old_entry : Tree → ℕ → List ℕ → List (Bool × Answer)
old_entry t d p = when (no_last p || last_dots p) Perm ∷ when (is_long t d p) NameTooLong ∷ when (not (is_there t d p)) NoEntry
    ∷ when (slash p && not (gives_dir t d p)) NotDir ∷ when (gives_dir t d p) Perm ∷ []

-- what refuses a name that is to be made: mkdir's, create's, symlink's, and link's second
abbrev pub new_entry : Tree → ℕ → List ℕ → Bool → List (Bool × Answer)
new_entry t d p is_mkdir = when (no_last p || last_dots p) Exist ∷ when (is_long t d p) NameTooLong ∷ when (is_there t d p) Exist
    ∷ when (slash p && not is_mkdir) NoEntry ∷ when (is_full t d) DirFull ∷ []

-- all handles are open
abbrev pub no_handle : State → Bool × Answer
no_handle s = when (nat_le MOST_HANDLES (least_handle s.handles)) TooManyOpen

-- all numbers are taken
abbrev pub no_number : Tree → Bool × Answer
no_number t = when (nat_lt LAST_NUMBER (least t)) NoNumber

-- the tree needs more than N segments have
abbrev pub no_space : ℕ → Tree → Bool × Answer
no_space N t = when (nat_lt (NEED_OF_SEGMENT * N) (need t)) NoSpace

-- h isn't open
abbrev pub bad_handle : State → ℕ → Bool × Answer
bad_handle s h = when (is_none (find nat_cmp h s.handles)) BadHandle

-- the number of an open handle's file
abbrev pub file_at : State → ℕ → ℕ
file_at s h = unwrap_or (find nat_cmp h s.handles) 0

-- node n leaves the tree if no name and no handle gives it
abbrev pub let_go : Tree → Handles → ℕ → Tree
let_go t h n = if names t n == 0 && opened h n == 0 then without nat_cmp n t else t

-- d, and the directories above it
abbrev pub chain : ℕ → Tree → ℕ → List ℕ
chain zero t d = d ∷ []
chain (suc k) t d = d ∷ chain k t (up t d)

-- n is d, or a directory above it
abbrev pub is_within : Tree → ℕ → ℕ → Bool
is_within t n d = list_any (λ x. x == n) (chain (length t) t d)

-- the state with another tree
abbrev pub with_tree : State → Tree → State
with_tree s t = record s { tree = t }

-- open, at node n
abbrev pub opens : State → ℕ → Answer × State
opens s n = let h = least_handle s.handles in
    checked s (when (is_dir (node s.tree n)) IsDir ∷ no_handle s ∷ []) (Handle h, record s { handles = put nat_cmp h n s.handles })

-- a new node x with the path's last piece as its name in d
abbrev pub with_new : Tree → ℕ → List ℕ → Node → Tree
with_new t d p x = with_node (with_name t d (name p) (least t)) (least t) x

-- open with O_CREAT and O_EXCL: create, with the parent d
abbrev pub creates : ℕ → State → List ℕ → ℕ → Answer × State
creates N s p d = let h = least_handle s.handles in let t' = with_new s.tree d p (File []) in
    checked s (new_entry s.tree d p false ++ no_handle s ∷ no_number s.tree ∷ no_space N t' ∷ [])
    (Handle h, record s { tree = t'; handles = put nat_cmp h (least s.tree) s.handles })

-- close
abbrev pub closes : State → ℕ → Answer × State
closes s h = let rest = without nat_cmp h s.handles in
    checked s (bad_handle s h ∷ []) (Done, record s { tree = let_go s.tree rest (file_at s h); handles = rest })

-- pread
abbrev pub reads : State → ℕ → ℕ → ℕ → Answer × State
reads s h off n = checked s (bad_handle s h ∷ when (nat_lt LONGEST_TRANSFER n) Inval ∷ [])
    (Data (bytes.part (file_bytes (the_node s.tree (file_at s h))) off n), s)

-- pwrite: whole or refused
abbrev pub writes : ℕ → State → ℕ → ℕ → List ℕ → Answer × State
writes N s h off w = let n = file_at s h in let t' = with_node s.tree n (File (bytes.put (file_bytes (the_node s.tree n)) off w)) in
    checked s (bad_handle s h ∷ when (nat_lt LONGEST_TRANSFER (length w)) Inval ∷ (length w == 0, Count 0)
    ∷ when (nat_lt LARGEST_FILE (off + length w)) FileTooBig ∷ no_space N t' ∷ [])
    (Count (length w), with_tree s t')

-- ftruncate
abbrev pub truncates : State → ℕ → ℕ → Answer × State
truncates s h n = let f = file_at s h in
    checked s (bad_handle s h ∷ when (nat_lt LARGEST_FILE n) FileTooBig ∷ [])
    (Done, with_tree s (with_node s.tree f (File (bytes.cut (file_bytes (the_node s.tree f)) n))))

-- mkdir, with the parent d; the form of a new directory is the version's
abbrev pub makes_dir : ℕ → State → List ℕ → ℕ → Answer × State
makes_dir N s p d = let t' = with_new s.tree d p (Dir (new_form s.version) []) in
    checked s (new_entry s.tree d p true ++ when (nat_le MOST_LINKS (links s.tree d)) TooManyLinks ∷ no_number s.tree ∷ no_space N t' ∷ [])
    (Done, with_tree s t')

-- link: b names what a names; the second path is walked after a's refusals
abbrev pub links_to : ℕ → State → List ℕ → List ℕ → ℕ → End → Answer × State
links_to N s a b da eb = checked s (old_entry s.tree da a) (reached s eb (λ db.
    let n = target s.tree da a in let t' = with_name s.tree db (name b) n in
    checked s (new_entry s.tree db b false ++ when (nat_le MOST_LINKS (links s.tree n)) TooManyLinks ∷ no_space N t' ∷ [])
    (Done, with_tree s t')))

-- symlink, with the parent d
abbrev pub makes_link : ℕ → State → List ℕ → List ℕ → ℕ → Answer × State
makes_link N s text p d = let t' = with_new s.tree d p (Link text) in
    checked s (new_entry s.tree d p false ++ no_number s.tree ∷ no_space N t' ∷ []) (Done, with_tree s t')

-- readlink, at node n
abbrev pub reads_link : State → ℕ → Answer × State
reads_link s n = checked s (when (not (is_link (the_node s.tree n))) Inval ∷ []) (Text (head_of (the_node s.tree n)), s)

-- unlink, with the parent d
abbrev pub unlinks : State → List ℕ → ℕ → Answer × State
unlinks s p d = let n = target s.tree d p in
    checked s (old_entry s.tree d p) (Done, with_tree s (let_go (without_name s.tree d (name p)) s.handles n))

-- rmdir, with the parent d
abbrev pub removes_dir : State → List ℕ → ℕ → Answer × State
removes_dir s p d = let n = target s.tree d p in
    checked s
    (when (no_last p) Busy ∷ when (last_dots p) Inval ∷ when (is_long s.tree d p) NameTooLong ∷ when (not (is_there s.tree d p)) NoEntry
    ∷ when (not (gives_dir s.tree d p)) NotDir ∷ when (nat_lt 0 (length (names_in s.tree n))) NotEmpty ∷ [])
    (Done, with_tree s (let_go (without_name s.tree d (name p)) s.handles n))

-- what refuses a rename, for the parents da and db, t' being the tree after it
abbrev pub rename_list : ℕ → State → List ℕ → List ℕ → ℕ → ℕ → Tree → List (Bool × Answer)
rename_list N s a b da db t' = let t = s.tree in let n = target t da a in let old = target t db b in
    when (no_last a || no_last b) Busy ∷ when (last_dots a || last_dots b) Inval
    ∷ when (is_long t da a) NameTooLong ∷ when (not (is_there t da a)) NoEntry ∷ when (slash a && not (gives_dir t da a)) NotDir
    ∷ when (is_long t db b) NameTooLong ∷ when (slash b && not (gives_dir t da a)) NotDir
    ∷ (is_there t db b && n == old, Done)
    ∷ when (is_within t n db) Inval
    ∷ when (is_there t db b && gives_dir t db b && not (gives_dir t da a)) IsDir
    ∷ when (is_there t db b && gives_dir t da a && not (gives_dir t db b)) NotDir
    ∷ when (is_there t db b && nat_lt 0 (length (names_in t old))) NotEmpty
    ∷ when (not (is_there t db b) && not (da == db) && is_full t db) DirFull
    ∷ when (gives_dir t da a && not (is_there t db b) && not (da == db) && nat_le MOST_LINKS (links t db)) TooManyLinks
    ∷ no_space N t' ∷ []

-- rename: a's name is gone and b names a's node, in one change; what b named has lost a name
abbrev pub renames : ℕ → State → List ℕ → List ℕ → ℕ → ℕ → Answer × State
renames N s a b da db = let t = s.tree in let n = target t da a in let old = target t db b in
    let moved = with_name (without_name t da (name a)) db (name b) n in
    let t' = if is_there t db b then let_go moved s.handles old else moved in
    checked s (rename_list N s a b da db t') (Done, with_tree s t')

-- readdir, at node n
abbrev pub lists : State → ℕ → Answer × State
lists s n = checked s (when (not (is_dir (node s.tree n))) NotDir ∷ []) (Entries (map (entry_of s.tree) (names_in s.tree n)), s)

-- the version after an upgrade
abbrev pub raised_version : ℕ → ℕ
raised_version version = cond (version == 1) 2 version

-- upgrade: the version of the layout becomes 2 where it is 1
abbrev pub upgrades : State → Answer × State
upgrades s = (Done, record s { version = raised_version s.version })

-- the tree with directory n in form 1: its names and their numbers stay
abbrev pub widened : Tree → ℕ → Tree
widened t n = with_node t n (Dir 1 (names_in t n))

-- widen, at node n: version 1 has no form 1, and a directory of form 1 stays as it is
abbrev pub widens : ℕ → State → ℕ → Answer × State
widens N s n = let t' = widened s.tree n in
    checked s (when (not (is_dir (node s.tree n))) NotDir ∷ when (s.version == 1) Inval ∷ (form_of (node s.tree n) == 1, Done)
    ∷ no_space N t' ∷ [])
    (Done, with_tree s t')

-- space
abbrev pub room : ℕ → Tree → Answer
room N t = Room (data_blocks t) (meta_blocks t) (need t) (NEED_OF_SEGMENT * N)

-- the walks that a call takes: of a whole path, following a last link or not, or to a path's parent
pub data Path : Type 0 where
  Whole : List ℕ → Bool → Path
  Holder : List ℕ → Path
  NoPath : Path

-- such a walk ends so
abbrev pub PathEnds : Tree → Path → End → Type 0
PathEnds t (Whole p follow) e = Resolve t p follow e
PathEnds t (Holder p) e = Parent t p e
PathEnds t NoPath e = e ≡ At 1

-- the walk of a call's first path
abbrev pub path_of : Call → Path
path_of (Open p) = Whole p true
path_of (Create p) = Holder p
path_of (Mkdir p) = Holder p
path_of (LinkTo p q) = Holder p
path_of (Symlink text p) = Holder p
path_of (Readlink p) = Whole p false
path_of (Unlink p) = Holder p
path_of (Rmdir p) = Holder p
path_of (Rename p q) = Holder p
path_of (StatOf p) = Whole p true
path_of (LstatOf p) = Whole p false
path_of (Readdir p) = Whole p true
path_of (Widen p) = Whole p true
path_of (Close h) = NoPath
path_of (Pread h off n) = NoPath
path_of (Pwrite h off w) = NoPath
path_of (Truncate h n) = NoPath
path_of (Fsync h) = NoPath
path_of Sync = NoPath
path_of Clean = NoPath
path_of Space = NoPath
path_of Version = NoPath
path_of Upgrade = NoPath
path_of ListTree = NoPath

-- the walk of its second path
abbrev pub second_path_of : Call → Path
second_path_of (LinkTo p q) = Holder q
second_path_of (Rename p q) = Holder q
second_path_of (Open p) = NoPath
second_path_of (Create p) = NoPath
second_path_of (Close h) = NoPath
second_path_of (Pread h off n) = NoPath
second_path_of (Pwrite h off w) = NoPath
second_path_of (Truncate h n) = NoPath
second_path_of (Mkdir p) = NoPath
second_path_of (Symlink text p) = NoPath
second_path_of (Readlink p) = NoPath
second_path_of (Unlink p) = NoPath
second_path_of (Rmdir p) = NoPath
second_path_of (StatOf p) = NoPath
second_path_of (LstatOf p) = NoPath
second_path_of (Readdir p) = NoPath
second_path_of (Fsync h) = NoPath
second_path_of Sync = NoPath
second_path_of Clean = NoPath
second_path_of Space = NoPath
second_path_of Version = NoPath
second_path_of Upgrade = NoPath
second_path_of (Widen p) = NoPath
second_path_of ListTree = NoPath

-- the answer and the state after a call whose paths end at e and f
abbrev pub outcome : ℕ → State → Call → End → End → Answer × State
outcome N s (Open p) e f = reached s e (opens s)
outcome N s (Create p) e f = reached s e (creates N s p)
outcome N s (Close h) e f = closes s h
outcome N s (Pread h off n) e f = reads s h off n
outcome N s (Pwrite h off w) e f = writes N s h off w
outcome N s (Truncate h n) e f = truncates s h n
outcome N s (Mkdir p) e f = reached s e (makes_dir N s p)
outcome N s (LinkTo p q) e f = reached s e (λ d. links_to N s p q d f)
outcome N s (Symlink text p) e f = checked s (text_check text) (reached s e (makes_link N s text p))
outcome N s (Readlink p) e f = reached s e (reads_link s)
outcome N s (Unlink p) e f = reached s e (unlinks s p)
outcome N s (Rmdir p) e f = reached s e (removes_dir s p)
outcome N s (Rename p q) e f = reached s e (λ da. reached s f (renames N s p q da))
outcome N s (StatOf p) e f = reached s e (λ n. (Status (stat_of s.tree n), s))
outcome N s (LstatOf p) e f = reached s e (λ n. (Status (stat_of s.tree n), s))
outcome N s (Readdir p) e f = reached s e (lists s)
outcome N s (Fsync h) e f = checked s (bad_handle s h ∷ []) (Done, s)
outcome N s Sync e f = (Done, s)
outcome N s Clean e f = (Done, s)
outcome N s Space e f = (room N s.tree, s)
outcome N s Version e f = (FormatVersion s.version, s)
outcome N s Upgrade e f = upgrades s
outcome N s (Widen p) e f = reached s e (widens N s)
outcome N s ListTree e f = (Rows (rows_of s.tree), s)

-- From s the call has this answer and leaves this state.
pub record Step (N : ℕ) (s : State) (call : Call) (a : Answer) (s' : State) : Type 0 where
  pub first_end : End
  pub second_end : End
  pub first : PathEnds s.tree (path_of call) first_end
  pub second : PathEnds s.tree (second_path_of call) second_end
  pub answer : (outcome N s call first_end second_end).0 ≡ a
  pub state : (outcome N s call first_end second_end).1 ≡ s'

-- Calls one after another, each with its own answer and state.
pub data Steps (N : ℕ) : State → List Call → List Answer → State → Type 0 where
  none : {s : State} → Steps N s [] [] s
  next : {s mid s' : State} {call : Call} {calls : List Call} {a : Answer} {answers : List Answer}
      → Step N s call a mid → Steps N mid calls answers s' → Steps N s (call ∷ calls) (a ∷ answers) s'
