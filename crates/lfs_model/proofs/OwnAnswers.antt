-- A step of the model never answers Halted or Device: these come only of calls of the device that failed.
use Rattle.std.proofs.Common.{◌≡◌, ◌+◌, ◌==◌, ℕ, Bool, true, false, Option, Some, None, List, [], ◌∷◌, ◌++◌, length, refl, sym, subst}
use Rattle.std.specs.Prelude.{if◌then◌else◌, not, nat_lt, nat_le, MatchOption, option_map, unwrap_or}
use Rattle.std.specs.List.{AllByRecursion, list_any}
use Rattle.lfs_model.specs.Bytes as bytes
use Rattle.lfs_model.specs.Tree.{File, Dir, Link, Tree, State, node, with_node, is_dir, form_of, names_in, with_name, without_name, links}
use Rattle.lfs_model.specs.Tree.{least_handle, new_form}
use Rattle.lfs_model.specs.PathText.{comps, slash, but_last, text_refusal}
use Rattle.lfs_model.specs.Refusal.{Refusal, NoEntry, NotDir, IsDir, NotEmpty, Inval, NameTooLong, Busy}
use Rattle.lfs_model.specs.Refusal.{TooManyLinks, FileTooBig, Device, Halted}
use Rattle.lfs_model.specs.Walk.{Walk, no_piece, stays, goes_up, too_long, not_there, directory, file, not_dir, link, loops, followed, End}
use Rattle.lfs_model.specs.Walk.{At, Refused, Ends}
use Rattle.lfs_model.specs.Call.{Call, Open, Create, Close, Pread, Pwrite, Truncate, Mkdir, LinkTo, Symlink, Readlink, Unlink, Rmdir}
use Rattle.lfs_model.specs.Call.{Rename, StatOf, LstatOf, Readdir, Fsync, Sync, Clean, Space, Version, Upgrade, Widen, ListTree, Answer}
use Rattle.lfs_model.specs.Call.{Refuse, Done, Handle, Count, Data, Text, Status, Entries}
use Rattle.lfs_model.specs.Step.{Path, Whole, Holder, NoPath, PathEnds, Step, bad_handle, checked, closes, creates, file_at, file_bytes}
use Rattle.lfs_model.specs.Step.{gives_dir, is_link, is_long, is_there, last_dots, let_go, links_to, lists, makes_dir, makes_link, name}
use Rattle.lfs_model.specs.Step.{new_entry, no_handle, no_last, no_number, no_space, old_entry, opens, outcome, path_of, reached, reads}
use Rattle.lfs_model.specs.Step.{reads_link, removes_dir, rename_list, renames, second_path_of, stat_of, target, text_check, the_node}
use Rattle.lfs_model.specs.Step.{truncates, unlinks, when, widened, widens, with_new, with_tree, writes}
use Rattle.lfs_model.proofs.Walks.{Some-injective}

-- the answer is neither Halted nor Device
abbrev is_own : Answer → Bool
is_own (Refuse Halted) = false
is_own (Refuse Device) = false
is_own _ = true

abbrev IsOwn : Answer → Type 0
IsOwn a = is_own a ≡ true

-- and neither is a walk's refusal
abbrev IsOwnEnd : End → Type 0
IsOwnEnd (At n) = Unit {0}
IsOwnEnd (Refused r) = IsOwn (Refuse r)

-- ---- walks

walk_own : {t : Tree} {follow : Bool} {d : ℕ} {ps : List (List ℕ)} {s : Bool} {k : ℕ} {e : End} → Walk t follow d ps s k e → IsOwnEnd e
walk_own no_piece = tt
walk_own (stays is w) = walk_own w
walk_own (goes_up is w) = walk_own w
walk_own (too_long long) = refl
walk_own (not_there is none) = refl
walk_own (directory g w) = walk_own w
walk_own (file g last) = tt
walk_own (not_dir g last) = refl
walk_own (link g last) = tt
walk_own (loops g last full) = refl
walk_own (followed g last room w) = walk_own w

-- what refuses a text
text_own : (p : List ℕ) (r : Refusal) → text_refusal p ≡ Some r → IsOwn (Refuse r)
text_own p r is = by (nat_lt 0 (length p)) (nat_lt 1023 (length p)) (list_any (λ c. nat_lt c 1) p) is
  where
    by : (some long zero : Bool) → (if some then (if long then Some NameTooLong else (if zero then Some Inval else None)) else Some NoEntry)
        ≡ Some r → IsOwn (Refuse r)
    by false long zero e = subst (λ (x : Refusal). IsOwn (Refuse x)) (Some-injective e) refl
    by true true zero e = subst (λ (x : Refusal). IsOwn (Refuse x)) (Some-injective e) refl
    by true false true e = subst (λ (x : Refusal). IsOwn (Refuse x)) (Some-injective e) refl
    by true false false e = absurd (cc)

ends_own : (p : List ℕ) (W : End → Type 0) (e : End) → (W e → IsOwnEnd e) → Ends p W e → IsOwnEnd e
ends_own p W e walks ends = by (text_refusal p) (text_own p) ends
  where
    by : (o : Option Refusal) → ((r : Refusal) → o ≡ Some r → IsOwn (Refuse r)) → MatchOption o (W e) (λ r. e ≡ Refused r) → IsOwnEnd e
    by None own is = walks is
    by (Some r) own is = subst IsOwnEnd (sym is) (own r refl)

path_own : (t : Tree) (path : Path) (e : End) → PathEnds t path e → IsOwnEnd e
path_own t (Whole p follow) e ends = ends_own p (Walk t follow 1 (comps p) (slash p) 0) e walk_own ends
path_own t (Holder p) e ends = ends_own p (Walk t true 1 (but_last (comps p)) true 0) e walk_own ends
path_own t NoPath e ends = subst IsOwnEnd (sym ends) tt

-- ---- rows

abbrev AreOwn : List (Bool × Answer) → Type 0
AreOwn = AllByRecursion (λ (c : Bool × Answer). IsOwn c.1)

checked_own : (s : State) (cs : List (Bool × Answer)) (o : Answer × State) → AreOwn cs → IsOwn o.0 → IsOwn (checked s cs o).0
checked_own s [] o all last = last
checked_own s (c ∷ cs) o all last = elim c.0 as (λ b. IsOwn (if b then (c.1, s) else checked s cs o).0)
    [ true ↦ all.0 | false ↦ checked_own s cs o all.1 last ]

reached_own : (s : State) (e : End) (f : ℕ → Answer × State) → IsOwnEnd e → ((n : ℕ) → IsOwn (f n).0) → IsOwn (reached s e f).0
reached_own s (At n) f own each = each n
reached_own s (Refused r) f own each = own

check_own : (p : List ℕ) → AreOwn (text_check p)
check_own p = by (text_refusal p) (text_own p)
  where
    by : (o : Option Refusal) → ((r : Refusal) → o ≡ Some r → IsOwn (Refuse r))
        → AreOwn (unwrap_or (option_map (λ r. when true r ∷ []) o) [])
    by None own = tt
    by (Some r) own = (own r refl, tt)

-- one row after the other
new_entry_own : (t : Tree) (d : ℕ) (p : List ℕ) (is_mkdir : Bool) (rest : List (Bool × Answer)) → AreOwn rest
    → AreOwn (new_entry t d p is_mkdir ++ rest)
new_entry_own t d p is_mkdir rest own = (refl, (refl, (refl, (refl, (refl, own)))))

old_entry_own : (t : Tree) (d : ℕ) (p : List ℕ) → AreOwn (old_entry t d p)
old_entry_own t d p = (refl, (refl, (refl, (refl, (refl, tt)))))

opens_own : (s : State) (n : ℕ) → IsOwn (opens s n).0
opens_own s n =
    checked_own s (when (is_dir (node s.tree n)) IsDir ∷ no_handle s ∷ []) (Handle (least_handle s.handles), _) (refl, (refl, tt)) refl

creates_own : (N : ℕ) (s : State) (p : List ℕ) (d : ℕ) → IsOwn (creates N s p d).0
creates_own N s p d =
    let rest : List (Bool × Answer) = no_handle s ∷ no_number s.tree ∷ no_space N (with_new s.tree d p (File [])) ∷ [] in
    checked_own s (new_entry s.tree d p false ++ rest) (Handle (least_handle s.handles), _)
    (new_entry_own s.tree d p false rest (refl, (refl, (refl, tt)))) refl

closes_own : (s : State) (h : ℕ) → IsOwn (closes s h).0
closes_own s h = checked_own s (bad_handle s h ∷ []) (Done, _) (refl, tt) refl

reads_own : (s : State) (h off n : ℕ) → IsOwn (reads s h off n).0
reads_own s h off n = checked_own s (bad_handle s h ∷ when (nat_lt 65536 n) Inval ∷ []) (Data _, s) (refl, (refl, tt)) refl

writes_own : (N : ℕ) (s : State) (h off : ℕ) (w : List ℕ) → IsOwn (writes N s h off w).0
writes_own N s h off w = checked_own s
    (bad_handle s h ∷ when (nat_lt 65536 (length w)) Inval ∷ (length w == 0, Count 0) ∷ when (nat_lt 8511488 (off + length w)) FileTooBig
    ∷ no_space N (with_node s.tree (file_at s h) (File (bytes.put (file_bytes (the_node s.tree (file_at s h))) off w))) ∷ [])
    (Count (length w), _) (refl, (refl, (refl, (refl, (refl, tt))))) refl

truncates_own : (s : State) (h n : ℕ) → IsOwn (truncates s h n).0
truncates_own s h n = checked_own s (bad_handle s h ∷ when (nat_lt 8511488 n) FileTooBig ∷ []) (Done, _) (refl, (refl, tt)) refl

makes_dir_own : (N : ℕ) (s : State) (p : List ℕ) (d : ℕ) → IsOwn (makes_dir N s p d).0
makes_dir_own N s p d =
    let rest : List (Bool × Answer) = when (nat_le 1000 (links s.tree d)) TooManyLinks ∷ no_number s.tree
    ∷ no_space N (with_new s.tree d p (Dir (new_form s.version) [])) ∷ [] in
    checked_own s (new_entry s.tree d p true ++ rest) (Done, _) (new_entry_own s.tree d p true rest (refl, (refl, (refl, tt)))) refl

makes_link_own : (N : ℕ) (s : State) (text p : List ℕ) (d : ℕ) → IsOwn (makes_link N s text p d).0
makes_link_own N s text p d =
    let rest : List (Bool × Answer) = no_number s.tree ∷ no_space N (with_new s.tree d p (Link text)) ∷ [] in
    checked_own s (new_entry s.tree d p false ++ rest) (Done, _) (new_entry_own s.tree d p false rest (refl, (refl, tt))) refl

links_to_own : (N : ℕ) (s : State) (a b : List ℕ) (da : ℕ) (eb : End) → IsOwnEnd eb → IsOwn (links_to N s a b da eb).0
links_to_own N s a b da eb second = checked_own s (old_entry s.tree da a) _ (old_entry_own s.tree da a) (reached_own s eb _ second (λ db.
    let rest : List (Bool × Answer) = when (nat_le 1000 (links s.tree (target s.tree da a))) TooManyLinks
    ∷ no_space N (with_name s.tree db (name b) (target s.tree da a)) ∷ [] in
    checked_own s (new_entry s.tree db b false ++ rest) (Done, _) (new_entry_own s.tree db b false rest (refl, (refl, tt))) refl))

reads_link_own : (s : State) (n : ℕ) → IsOwn (reads_link s n).0
reads_link_own s n = checked_own s (when (not (is_link (the_node s.tree n))) Inval ∷ []) (Text _, s) (refl, tt) refl

unlinks_own : (s : State) (p : List ℕ) (d : ℕ) → IsOwn (unlinks s p d).0
unlinks_own s p d = checked_own s (old_entry s.tree d p) (Done, _) (old_entry_own s.tree d p) refl

removes_dir_own : (s : State) (p : List ℕ) (d : ℕ) → IsOwn (removes_dir s p d).0
removes_dir_own s p d = checked_own s
    (when (no_last p) Busy ∷ when (last_dots p) Inval ∷ when (is_long s.tree d p) NameTooLong ∷ when (not (is_there s.tree d p)) NoEntry
    ∷ when (not (gives_dir s.tree d p)) NotDir ∷ when (nat_lt 0 (length (names_in s.tree (target s.tree d p)))) NotEmpty ∷ []) (Done, _)
    (refl, (refl, (refl, (refl, (refl, (refl, tt)))))) refl

rename_list_own : (N : ℕ) (s : State) (a b : List ℕ) (da db : ℕ) (t' : Tree) → AreOwn (rename_list N s a b da db t')
rename_list_own N s a b da db t' =
    (refl, (refl, (refl, (refl, (refl, (refl, (refl, (refl, (refl, (refl, (refl, (refl, (refl, (refl, (refl, tt)))))))))))))))

renames_own : (N : ℕ) (s : State) (a b : List ℕ) (da db : ℕ) → IsOwn (renames N s a b da db).0
renames_own N s a b da db =
    let n = target s.tree da a in
    let moved = with_name (without_name s.tree da (name a)) db (name b) n in
    let t' : Tree = if is_there s.tree db b then let_go moved s.handles (target s.tree db b) else moved in
    checked_own s (rename_list N s a b da db t') (Done, with_tree s t') (rename_list_own N s a b da db t') refl

lists_own : (s : State) (n : ℕ) → IsOwn (lists s n).0
lists_own s n = checked_own s (when (not (is_dir (node s.tree n))) NotDir ∷ []) (Entries _, s) (refl, tt) refl

widens_own : (N : ℕ) (s : State) (n : ℕ) → IsOwn (widens N s n).0
widens_own N s n =
    let t' : Tree = widened s.tree n in
    checked_own s (when (not (is_dir (node s.tree n))) NotDir ∷ when (s.version == 1) Inval ∷ (form_of (node s.tree n) == 1, Done)
    ∷ no_space N t' ∷ []) (Done, with_tree s t') (refl, (refl, (refl, (refl, tt)))) refl

outcome_own : (N : ℕ) (s : State) (call : Call) (e f : End) → IsOwnEnd e → IsOwnEnd f → IsOwn (outcome N s call e f).0
outcome_own N s (Open p) e f first second = reached_own s e (opens s) first (opens_own s)
outcome_own N s (Create p) e f first second = reached_own s e (creates N s p) first (creates_own N s p)
outcome_own N s (Close h) e f first second = closes_own s h
outcome_own N s (Pread h off n) e f first second = reads_own s h off n
outcome_own N s (Pwrite h off w) e f first second = writes_own N s h off w
outcome_own N s (Truncate h n) e f first second = truncates_own s h n
outcome_own N s (Mkdir p) e f first second = reached_own s e (makes_dir N s p) first (makes_dir_own N s p)
outcome_own N s (LinkTo p q) e f first second = reached_own s e (λ d. links_to N s p q d f) first (λ d. links_to_own N s p q d f second)
outcome_own N s (Symlink text p) e f first second = checked_own s (text_check text) (reached s e (makes_link N s text p)) (check_own text)
    (reached_own s e (makes_link N s text p) first (makes_link_own N s text p))
outcome_own N s (Readlink p) e f first second = reached_own s e (reads_link s) first (reads_link_own s)
outcome_own N s (Unlink p) e f first second = reached_own s e (unlinks s p) first (unlinks_own s p)
outcome_own N s (Rmdir p) e f first second = reached_own s e (removes_dir s p) first (removes_dir_own s p)
outcome_own N s (Rename p q) e f first second = reached_own s e (λ da. reached s f (renames N s p q da)) first
    (λ da. reached_own s f (renames N s p q da) second (renames_own N s p q da))
outcome_own N s (StatOf p) e f first second = reached_own s e (λ n. (Status (stat_of s.tree n), s)) first (λ n. refl)
outcome_own N s (LstatOf p) e f first second = reached_own s e (λ n. (Status (stat_of s.tree n), s)) first (λ n. refl)
outcome_own N s (Readdir p) e f first second = reached_own s e (lists s) first (lists_own s)
outcome_own N s (Fsync h) e f first second = checked_own s (bad_handle s h ∷ []) (Done, s) (refl, tt) refl
outcome_own N s Sync e f first second = refl
outcome_own N s Clean e f first second = refl
outcome_own N s Space e f first second = refl
outcome_own N s Version e f first second = refl
outcome_own N s Upgrade e f first second = refl
outcome_own N s (Widen p) e f first second = reached_own s e (widens N s) first (widens_own N s)
outcome_own N s ListTree e f first second = refl

step_own : (N : ℕ) (s s' : State) (call : Call) {a : Answer} → Step N s call a s' → IsOwn a
step_own N s s' call step =
    let own : IsOwn (outcome N s call step.first_end step.second_end).0 =
    outcome_own N s call step.first_end step.second_end (path_own s.tree (path_of call) step.first_end step.first)
    (path_own s.tree (second_path_of call) step.second_end step.second) in
    subst IsOwn step.answer own

pub steps_never_halt : (N : ℕ) (s s' : State) (call : Call) (a : Answer) → Step N s call a s' → a ≡ Refuse Halted → ⊥
steps_never_halt N s s' call a step halted =
    let here : IsOwn (Refuse Halted) = subst IsOwn halted (step_own N s s' call step) in cc

pub steps_never_fail : (N : ℕ) (s s' : State) (call : Call) (a : Answer) → Step N s call a s' → a ≡ Refuse Device → ⊥
steps_never_fail N s s' call a step failed =
    let here : IsOwn (Refuse Device) = subst IsOwn failed (step_own N s s' call step) in cc
