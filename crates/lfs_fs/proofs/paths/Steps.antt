-- The calls of paths, and those without arguments, exit by exit.
use Rattle.lfs_fs.proofs.Prelude.{◌≡◌, ◌<◌, ◌≤◌, ℕ, Bool, true, false, not, List, [], ◌∷◌, length, map, Option, Some, None, refl, ◌∙◌, ap}
use Rattle.lfs_fs.proofs.Prelude.{nat_lt, if◌then◌else◌, unwrap_or, nat_cmp, put, Open, Create, Mkdir, Symlink, Readlink, Readdir}
use Rattle.lfs_fs.proofs.Prelude.{Clean, Sync, Space, Version, ListTree, Answer, Refuse, Handle, Status, Text, Entries, Done, FormatVersion}
use Rattle.lfs_fs.proofs.Prelude.{Rows, Refusal, Inval, IsDir, NameTooLong}
use Rattle.lfs_fs.proofs.Prelude.{NoEntry, NotDir, TooManyOpen, text_refusal, NamesGive, Step, head_of, is_link, stat_of, rows_of, the_node}
use Rattle.lfs_fs.proofs.Prelude.{State, names_in, node, is_dir, least_handle, At, Refused, Resolve, Parent, step_ends, Some-injective}
use Rattle.lfs_fs.proofs.Prelude.{stat_call, at_most, not_at_most}
use Rattle.std.proofs.Common.{nat_le}
use Rattle.std.specs.Prelude.{option_map}
use Rattle.std.specs.List.{list_any}
use Rattle.lfs_model.specs.Step.{checked, entry_of, makes_link, no_handle, reached}
use Rattle.lfs_model.specs.Step.{PathEnds, outcome, path_of, room, second_path_of, text_check, when}
use Rattle.lfs_fs.proofs.Prelude.{Call, End}
use Rattle.lfs_fs.proofs.calls.AnyDevice.{IsOrdinary}
use Rattle.lfs_steps.proofs.calls.Checks.{refuses, passes}

-- a call whose only path, if it has one, is walked to this end
step_at : {N : ℕ} {s s' : State} {call : Call} {a : Answer} (e : End) → PathEnds s.tree (path_of call) e
    → PathEnds s.tree (second_path_of call) (At 1) → outcome N s call e (At 1) ≡ (a, s') → Step N s call a s'
step_at e walk second is = record {
  first_end = e;
  second_end = At 1;
  first = walk;
  second = second;
  answer = ap (λ x. x.0) is;
  state = ap (λ x. x.1) is;
}

-- ---- calls without arguments
pub sync_done : (N : ℕ) (s : State) → Step N s Sync Done s
sync_done N s = step_at (At 1) refl refl refl

pub clean_done : (N : ℕ) (s : State) → Step N s Clean Done s
clean_done N s = step_at (At 1) refl refl refl

pub space_done : (N : ℕ) (s : State) → Step N s Space (room N s.tree) s
space_done N s = step_at (At 1) refl refl refl

pub version_done : (N : ℕ) (s : State) → Step N s Version (FormatVersion s.version) s
version_done N s = step_at (At 1) refl refl refl

pub tree_done : (N : ℕ) (s : State) → Step N s ListTree (Rows (rows_of s.tree)) s
tree_done N s = step_at (At 1) refl refl refl

-- what refuses a text, by its refusal
abbrev by_refusal : Option Refusal → List (Bool × Answer)
by_refusal o = unwrap_or (option_map (λ r. when true r ∷ []) o) []

-- a text's refusal is none of those that end a volume
pub text_ordinary : (text : List ℕ) (r : Refusal) → text_refusal text ≡ Some r → IsOrdinary (Refuse r)
text_ordinary text r = by (nat_lt 0 (length text)) (nat_lt 1023 (length text)) (list_any (λ c. nat_lt c 1) text)
  where
    by : (some long zero : Bool) → (if some then (if long then Some NameTooLong else (if zero then Some Inval else None)) else Some NoEntry)
        ≡ Some r → IsOrdinary (Refuse r)
    by false long zero e = rw (← Some-injective e) tt
    by true true zero e = rw (← Some-injective e) tt
    by true false true e = rw (← Some-injective e) tt
    by true false false e = absurd (cc)

-- ---- a path that is refused refuses its call
pub stat_refused : (p : List ℕ) (follow : Bool) (N : ℕ) (s : State) (r : Refusal) → Resolve s.tree p follow (Refused r)
    → Step N s (stat_call follow p) (Refuse r) s
stat_refused p true N s r walk = step_at (Refused r) walk refl refl
stat_refused p false N s r walk = step_at (Refused r) walk refl refl

module _ {p : List ℕ} (N : ℕ) (s : State) (r : Refusal) where
  pub readlink_refused : Resolve s.tree p false (Refused r) → Step N s (Readlink p) (Refuse r) s
  readlink_refused walk = step_at (Refused r) walk refl refl

  pub readdir_refused : Resolve s.tree p true (Refused r) → Step N s (Readdir p) (Refuse r) s
  readdir_refused walk = step_at (Refused r) walk refl refl

  pub open_refused : Resolve s.tree p true (Refused r) → Step N s (Open p) (Refuse r) s
  open_refused walk = step_at (Refused r) walk refl refl

  pub create_refused : Parent s.tree p (Refused r) → Step N s (Create p) (Refuse r) s
  create_refused walk = step_at (Refused r) walk refl refl

  pub mkdir_refused : Parent s.tree p (Refused r) → Step N s (Mkdir p) (Refuse r) s
  mkdir_refused walk = step_at (Refused r) walk refl refl

  -- where its text is good
  pub symlink_refused : {text : List ℕ} → text_refusal text ≡ None → Parent s.tree p (Refused r) → Step N s (Symlink text p) (Refuse r) s
  symlink_refused good walk =
      step_at (Refused r) walk refl (ap (λ (l : List (Bool × Answer)). checked s l (Refuse r, s)) (ap by_refusal good))

module _ (N : ℕ) (s : State) (p : List ℕ) where
  -- ---- stat and lstat

  pub stat_done : (follow : Bool) (n : ℕ) → Resolve s.tree p follow (At n) → Step N s (stat_call follow p) (Status (stat_of s.tree n)) s
  stat_done true n walk = step_at (At n) walk refl refl
  stat_done false n walk = step_at (At n) walk refl refl

  -- ---- readlink

  module _ (n : ℕ) (walk : Resolve s.tree p false (At n)) where
    abbrev readlink_told : Answer × State
    readlink_told = (Text (head_of (the_node s.tree n)), s)

    pub readlink_no_link : is_link (the_node s.tree n) ≡ false → Step N s (Readlink p) (Refuse Inval) s
    readlink_no_link other =
        step_at (At n) walk refl (refuses s (Refuse Inval) [] readlink_told (ap not other))

    pub readlink_done : is_link (the_node s.tree n) ≡ true → Step N s (Readlink p) (Text (head_of (the_node s.tree n))) s
    readlink_done link =
        step_at (At n) walk refl (passes s (not (is_link (the_node s.tree n))) (Refuse Inval) [] readlink_told (ap not link))

  -- ---- readdir

  module _ (n : ℕ) (walk : Resolve s.tree p true (At n)) where
    abbrev readdir_told : Answer × State
    readdir_told = (Entries (map (entry_of s.tree) (names_in s.tree n)), s)

    pub readdir_no_directory : is_dir (node s.tree n) ≡ false → Step N s (Readdir p) (Refuse NotDir) s
    readdir_no_directory other =
        step_at (At n) walk refl (refuses s (Refuse NotDir) [] readdir_told (ap not other))

    pub readdir_done : is_dir (node s.tree n) ≡ true → Step N s (Readdir p) (Entries (map (entry_of s.tree) (names_in s.tree n))) s
    readdir_done dir = step_at (At n) walk refl (passes s (not (is_dir (node s.tree n))) (Refuse NotDir) [] readdir_told (ap not dir))

  -- ---- open

  module _ (n : ℕ) (walk : Resolve s.tree p true (At n)) where
    abbrev pub with_handle : State
    with_handle = record s { handles = put nat_cmp (least_handle s.handles) n s.handles }

    abbrev open_done : Answer × State
    open_done = (Handle (least_handle s.handles), with_handle)

    pub open_directory : is_dir (node s.tree n) ≡ true → Step N s (Open p) (Refuse IsDir) s
    open_directory dir = step_at (At n) walk refl (refuses s (Refuse IsDir) (no_handle s ∷ []) open_done dir)

    pub open_too_many : is_dir (node s.tree n) ≡ false → 64 ≤ least_handle s.handles → Step N s (Open p) (Refuse TooManyOpen) s
    open_too_many file many = step_at (At n) walk refl (passes s (is_dir (node s.tree n)) (Refuse IsDir) (no_handle s ∷ []) open_done file
        ∙ refuses s (Refuse TooManyOpen) [] open_done (at_most 64 (least_handle s.handles) many))

    pub open_file : is_dir (node s.tree n) ≡ false → least_handle s.handles < 64
        → Step N s (Open p) (Handle (least_handle s.handles)) with_handle
    open_file file some = step_at (At n) walk refl (passes s (is_dir (node s.tree n)) (Refuse IsDir) (no_handle s ∷ []) open_done file
        ∙ passes s (nat_le 64 (least_handle s.handles)) (Refuse TooManyOpen) [] open_done (not_at_most 64 (least_handle s.handles) some))

  -- ---- symlink
  module _ (text : List ℕ) where
    -- where the text is bad, the walk doesn't matter
    pub symlink_bad_text : NamesGive s.tree → (r : Refusal) → text_refusal text ≡ Some r → Step N s (Symlink text p) (Refuse r) s
    symlink_bad_text sound r bad =
        let some = (step_ends N s sound (Symlink text p)).2 in
        let otherwise = reached s some.first_end (makes_link N s text p) in
        let stops : checked s (text_check text) otherwise ≡ (Refuse r, s) =
        ap (λ (l : List (Bool × Answer)). checked s l otherwise) (ap by_refusal bad) in
        record {
          first_end = some.first_end;
          second_end = some.second_end;
          first = some.first;
          second = some.second;
          answer = ap (λ x. x.0) stops;
          state = ap (λ x. x.1) stops;
        }
