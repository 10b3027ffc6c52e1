-- Calls keep a state sound.
use Rattle.std.proofs.Common.{◌≡◌, ◌≢◌, refl, sym, ap, subst, ℕ, ◌+◌, ◌*◌, ◌<◌, ◌≤◌, Bool, true, false, ◌||◌, List, [], ◌∷◌, ◌++◌, Option}
use Rattle.std.proofs.Common.{Some, None, arith, inl, inr, ◌⊎◌, length}
use Rattle.std.specs.Prelude.{◌==◌, not, is_some, is_none, unwrap_or, MatchOption, if◌then◌else◌, nat_lt, nat_le}
use Rattle.std.specs.List.{AllByRecursion, list_any}
use Rattle.std.proofs.lemmas.Bool.Decides.{nat_tests}
use Rattle.std.specs.Ordering.{nat_cmp}
use Rattle.std.specs.FinMap.{find, put}
use Rattle.lfs_model.specs.Bytes as bytes
use Rattle.lfs_model.specs.Bytes.{AreBytes}
use Rattle.lfs_model.specs.Tree.{Tree, Node, File, Link, State, Handles, node, with_node, without, without_name, names_in, is_dir, form_of}
use Rattle.lfs_model.specs.Tree.{entry, least, least_handle, names, links, with_name}
use Rattle.lfs_model.specs.PathText.{comps, slash, but_last, text_refusal}
use Rattle.lfs_model.specs.Refusal.{Refusal, NoEntry, NameTooLong, Inval, IsDir, FileTooBig, TooManyLinks}
use Rattle.lfs_model.specs.Walk.{End, At, Refused, Walk, Parent, Resolve}
use Rattle.lfs_model.specs.Need.{need, cost, cost_at}
use Rattle.lfs_model.specs.Sound.{Sound, IsWithinLimits, IsFile}
use Rattle.lfs_model.specs.Call.{LinkTo, Open, Create, Close, Pwrite, Truncate, Symlink, Unlink, Answer, Handle, Done, Count, AreArguments}
use Rattle.lfs_model.specs.Step.{Step, checked, reached, when, name, target, old_entry, new_entry, no_handle, no_number, no_space}
use Rattle.lfs_model.specs.Step.{bad_handle, file_at, file_bytes, the_node, let_go, with_tree, with_new, opens, links_to, creates}
use Rattle.lfs_model.specs.Step.{makes_link, unlinks, gives_dir}
use Rattle.lfs_model.proofs.FileBytes.{put_bytes, put_length, cut_bytes, length-cut}
use Rattle.lfs_model.proofs.Cuts.{cut_cost}
use Rattle.lfs_model.proofs.Needs.{need-with_node}
use Rattle.lfs_model.proofs.GoodNames.{good_name}
use Rattle.lfs_model.proofs.Parents.{ends_in_dir, ends_at_node}
use Rattle.lfs_model.proofs.Makes.{NonePass, checked_cases, dir_at, made_sound, new_node}
use Rattle.lfs_model.proofs.Handles.{opened_sound}
use Rattle.lfs_model.proofs.Dropping.{let_go_sound}
use Rattle.lfs_model.proofs.Unlinks.{lost_sound, still_plain}
use Rattle.lfs_model.proofs.Naming.{named_sound, sound_but, leaf_names_are}
use Rattle.lfs_model.proofs.Closes.{shut_sound}
use Rattle.lfs_model.proofs.Writes.{written_sound}

-- a refused call leaves the state
pub checked_sound : (N : ℕ) (s : State) (cs : List (Bool × Answer)) (r : Answer × State) → Sound N s → (NonePass cs → Sound N r.1)
    → Sound N (checked s cs r).1
checked_sound N s cs r sound done = elim (checked_cases s cs r) as (λ _. Sound N (checked s cs r).1) [
  | inl same ↦ subst (Sound N) (sym same) sound
  | inr ok ↦ subst (Sound N) (sym ok.1) (done ok.0)
]

-- a path whose text isn't refused has no zero byte, is not empty and not too long
pub good_text : (p : List ℕ) → text_refusal p ≡ None → (list_any (λ c. nat_lt c 1) p ≡ false) × (0 < length p) × (length p ≤ 1023)
good_text p h = elim (nat_lt 0 (length p)) as (λ a. nat_lt 0 (length p) ≡ a
    → (if a then (if nat_lt 1023 (length p) then Some NameTooLong else (if list_any (λ c. nat_lt c 1) p then Some Inval else None))
    else Some NoEntry) ≡ None → (list_any (λ c. nat_lt c 1) p ≡ false) × (0 < length p) × (length p ≤ 1023)) [
      | true ↦ λ some h. elim (nat_lt 1023 (length p)) as (λ a. nat_lt 1023 (length p) ≡ a
          → (if a then Some NameTooLong else (if list_any (λ c. nat_lt c 1) p then Some Inval else None)) ≡ None
          → (list_any (λ c. nat_lt c 1) p ≡ false) × (0 < length p) × (length p ≤ 1023)) [
            | true ↦ λ long h. cc
            | false ↦ λ short h. (
              elim (list_any (λ c. nat_lt c 1) p) as (λ a. (if a then Some Inval else None) ≡ None → a ≡ false)
                  [ true ↦ λ h. cc | false ↦ λ h. refl ] h,
              grind (arith, nat_tests),
              grind (arith, nat_tests),
            )
          ] refl h
      | false ↦ λ some h. cc
    ] refl h

-- a parent that isn't refused is a directory, and the path's text is good
pub parent_dir : (N : ℕ) (s : State) → Sound N s → (p : List ℕ) (d : ℕ) → Parent s.tree p (At d)
    → (is_dir (node s.tree d) ≡ true) × (text_refusal p ≡ None)
parent_dir N s sound p d par =
    elim (text_refusal p) as (λ r. MatchOption r (Walk s.tree true 1 (but_last (comps p)) true 0 (At d)) (λ r. At d ≡ Refused r)
    → (is_dir (node s.tree d) ≡ true) × (r ≡ None)) [
      | None ↦ λ w. (ends_in_dir s.tree sound.in_order sound.root w refl sound.root, refl)
      | Some r ↦ λ e. cc
    ] par

pub is_found : (o : Option ℕ) → not (is_some o) ≡ false → o ≡ Some (unwrap_or o 0)
is_found None h = cc
is_found (Some k) h = refl

-- ---- a new name with a new file or link

module _ (N : ℕ) (s : State) (p : List ℕ) (d : ℕ) (x : Node) (leaf : is_dir (Some x) ≡ false) (sound : Sound N s)
    (par : Parent s.tree p (At d)) (bytes : AreBytes p)
    (passed : NonePass (new_entry s.tree d p false)) (room : nat_lt 4095 (least s.tree) ≡ false) (good : IsWithinLimits x)
    (fits : nat_lt (47 * N) (need (with_new s.tree d p x)) ≡ false) where
  few : length (names_in s.tree d) < 1024
  few = let free : nat_le 1024 (length (names_in s.tree d)) ≡ false = passed.1.1.1.1.0 in grind (arith, nat_tests)

  top : least s.tree ≤ 4095
  top = grind (arith, nat_tests)

  need_fits : need (with_new s.tree d p x) ≤ 47 * N
  need_fits = grind (arith, nat_tests)

  parent : (is_dir (node s.tree d) ≡ true) × (text_refusal p ≡ None)
  parent = parent_dir N s sound p d par

  pub new_sound : Sound N (with_tree s (with_new s.tree d p x))
  new_sound = made_sound N s d (name p) x leaf sound parent.0 passed.1.1.0
      (good_name s.tree d p bytes (good_text p parent.1).0 passed.0 passed.1.0) few top good need_fits

  pub new_at : node (with_new s.tree d p x) (least s.tree) ≡ Some x
  new_at = new_node N s d (name p) x leaf sound parent.0 passed.1.1.0
      (good_name s.tree d p bytes (good_text p parent.1).0 passed.0 passed.1.0) few top good need_fits

create_at : (N : ℕ) (s : State) → Sound N s → (p : List ℕ) → AreBytes p → (e : End) → Parent s.tree p e
    → Sound N (reached s e (creates N s p)).1
create_at N s sound p bytes (Refused r) par = sound
create_at N s sound p bytes (At d) par =
    let t' : Tree = with_new s.tree d p (File []) in
    checked_sound N s (new_entry s.tree d p false ++ no_handle s ∷ no_number s.tree ∷ no_space N t' ∷ []) (
      Handle (least_handle s.handles),
      record s { tree = t'; handles = put nat_cmp (least_handle s.handles) (least s.tree) s.handles },
    ) sound (λ ok.
    let passed : NonePass (new_entry s.tree d p false) = (ok.0, (ok.1.0, (ok.1.1.0, (ok.1.1.1.0, (ok.1.1.1.1.0, tt))))) in
    let empty : IsWithinLimits (File []) = (omega arith, tt) in
    let few_open : nat_le 64 (least_handle s.handles) ≡ false = ok.1.1.1.1.1.0 in
    opened_sound N (with_tree s t') (least s.tree)
    (new_sound N s p d (File []) refl sound par bytes passed ok.1.1.1.1.1.1.0 empty ok.1.1.1.1.1.1.1.0)
    (grind (arith, nat_tests))
    ([], new_at N s p d (File []) refl sound par bytes passed ok.1.1.1.1.1.1.0 empty ok.1.1.1.1.1.1.1.0))

pub create_keeps : (N : ℕ) (s s' : State) (p : List ℕ) (a : Answer) → Sound N s → AreArguments (Create p) → Step N s (Create p) a s'
    → Sound N s'
create_keeps N s s' p a sound bytes st = subst (Sound N) st.state (create_at N s sound p bytes st.first_end st.first)

-- a link's text that isn't refused is within the limits
link_limits : (text : List ℕ) → AreBytes text → text_refusal text ≡ None → IsWithinLimits (Link text)
link_limits text bytes ok = let good = good_text text ok in (good.1, good.2, no_zero text good.0, bytes)
  where
    no_zero : (p : List ℕ) → list_any (λ c. nat_lt c 1) p ≡ false → AllByRecursion (λ c. c ≢ 0) p
    no_zero [] e = tt
    no_zero (c ∷ rest) e = elim (nat_lt c 1)
        as (λ b. nat_lt c 1 ≡ b → (b || list_any (λ c. nat_lt c 1) rest) ≡ false → (c ≢ 0) × AllByRecursion (λ c. c ≢ 0) rest) [
          | true ↦ λ h e. cc
          | false ↦ λ h e. (grind (arith, nat_tests), no_zero rest e)
        ] refl e

symlink_at : (N : ℕ) (s : State) → Sound N s → (text p : List ℕ) → AreBytes text → AreBytes p → text_refusal text ≡ None → (e : End)
    → Parent s.tree p e → Sound N (reached s e (makes_link N s text p)).1
symlink_at N s sound text p text_bytes bytes good (Refused r) par = sound
symlink_at N s sound text p text_bytes bytes good (At d) par =
    let t' : Tree = with_new s.tree d p (Link text) in
    checked_sound N s (new_entry s.tree d p false ++ no_number s.tree ∷ no_space N t' ∷ []) (Done, with_tree s t') sound (λ ok.
    new_sound N s p d (Link text) refl sound par bytes (ok.0, (ok.1.0, (ok.1.1.0, (ok.1.1.1.0, (ok.1.1.1.1.0, tt))))) ok.1.1.1.1.1.0
    (link_limits text text_bytes good) ok.1.1.1.1.1.1.0)

pub symlink_keeps : (N : ℕ) (s s' : State) (text p : List ℕ) (a : Answer) → Sound N s → AreArguments (Symlink text p)
    → Step N s (Symlink text p) a s' → Sound N s'
symlink_keeps N s s' text p a sound args st = subst (Sound N) st.state (by (text_refusal text) refl)
  where
    by : (o : Option Refusal) → text_refusal text ≡ o → Sound N (checked s (unwrap_or (elim o as (λ _. Option (List (Bool × Answer)))
        [ None ↦ None | Some r ↦ Some (when true r ∷ []) ]) []) (reached s st.first_end (makes_link N s text p))).1
    by None is = symlink_at N s sound text p args.0 args.1 is st.first_end st.first
    by (Some r) is = sound

-- ---- a further name

not_some : {A : Type 0} (o : Option A) → is_some o ≡ false → o ≡ None
not_some None e = refl
not_some (Some x) e = cc

link_named : (N : ℕ) (s : State) → Sound N s → (a b : List ℕ) (da : ℕ) → AreBytes b → entry s.tree da (name a) ≡ Some (target s.tree da a)
    → gives_dir s.tree da a ≡ false
    → (e : End) → Parent s.tree b e → Sound N (reached s e (λ db. let n = target s.tree da a in let t' = with_name s.tree db (name b) n in
    checked s (new_entry s.tree db b false ++ when (nat_le 1000 (links s.tree n)) TooManyLinks ∷ no_space N t' ∷ [])
    (Done, with_tree s t'))).1
link_named N s sound a b da bytes found leaf (Refused r) par = sound
link_named N s sound a b da bytes found leaf (At db) par =
    let n : ℕ = target s.tree da a in
    let t' : Tree = with_name s.tree db (name b) n in
    checked_sound N s (new_entry s.tree db b false ++ when (nat_le 1000 (links s.tree n)) TooManyLinks ∷ no_space N t' ∷ [])
    (Done, with_tree s t') sound (λ ok.
    let parent = parent_dir N s sound b db par in
    let free : nat_le 1024 (length (names_in s.tree db)) ≡ false = ok.1.1.1.1.0 in
    let few : length (names_in s.tree db) < 1024 = grind (arith, nat_tests) in
    let most : nat_le 1000 (links s.tree n) ≡ false = ok.1.1.1.1.1.0 in
    let few_links : links s.tree n < 1000 = grind (arith, nat_tests) in
    let few_names : names s.tree n < 1000 = (let are = leaf_names_are s.tree n (node s.tree n) leaf in omega arith) in
    let space : nat_lt (47 * N) (need t') ≡ false = ok.1.1.1.1.1.1.0 in
    let fits : need t' ≤ 47 * N = grind (arith, nat_tests) in
    named_sound N s db n (form_of (node s.tree db)) (names_in s.tree db) (name b) (sound_but N s n sound) (dir_at (node s.tree db) parent.0)
    (sound.named da (name a) n found) leaf
    (not_some (entry s.tree db (name b)) ok.1.1.0) (good_name s.tree db b bytes (good_text b parent.1).0 ok.0 ok.1.0) few few_names fits)

link_at : (N : ℕ) (s : State) → Sound N s → (a b : List ℕ) → AreBytes b → (e f : End) → Parent s.tree a e → Parent s.tree b f
    → Sound N (reached s e (λ d. links_to N s a b d f)).1
link_at N s sound a b bytes (Refused r) f par_a par_b = sound
link_at N s sound a b bytes (At d) f par_a par_b =
    checked_sound N s (old_entry s.tree d a) (reached s f (λ db. let n = target s.tree d a in let t' = with_name s.tree db (name b) n in
    checked s (new_entry s.tree db b false ++ when (nat_le 1000 (links s.tree n)) TooManyLinks ∷ no_space N t' ∷ [])
    (Done, with_tree s t'))) sound (λ ok.
    link_named N s sound a b d bytes (is_found (entry s.tree d (name a)) ok.1.1.0) ok.1.1.1.1.0 f par_b)

pub link_keeps : (N : ℕ) (s : State) {s' : State} (a b : List ℕ) (r : Answer) → Sound N s → AreArguments (LinkTo a b)
    → Step N s (LinkTo a b) r s'
    → Sound N s'
link_keeps N s a b r sound args st =
    subst (Sound N) st.state (link_at N s sound a b args.1 st.first_end st.second_end st.first st.second)

-- ---- a name less

unlink_at : (N : ℕ) (s : State) → Sound N s → (p : List ℕ) (e : End) → Parent s.tree p e → Sound N (reached s e (unlinks s p)).1
unlink_at N s sound p (Refused r) par = sound
unlink_at N s sound p (At d) par =
    let n : ℕ = target s.tree d p in
    let t1 : Tree = without_name s.tree d (name p) in
    checked_sound N s (old_entry s.tree d p) (Done, with_tree s (let_go t1 s.handles n)) sound (λ ok.
    let is = dir_at (node s.tree d) (parent_dir N s sound p d par).0 in
    let found : entry s.tree d (name p) ≡ Some n = is_found (entry s.tree d (name p)) ok.1.1.0 in
    let plain : is_dir (node s.tree n) ≡ false = ok.1.1.1.1.0 in
    let_go_sound N (with_tree s t1) n
    (lost_sound N s sound d n (form_of (node s.tree d)) (names_in s.tree d) (name p) is found plain)
    (still_plain N s sound d n (form_of (node s.tree d)) (names_in s.tree d) (name p) is found plain))

pub unlink_keeps : (N : ℕ) (s s' : State) (p : List ℕ) (a : Answer) → Sound N s → Step N s (Unlink p) a s' → Sound N s'
unlink_keeps N s s' p a sound st = subst (Sound N) st.state (unlink_at N s sound p st.first_end st.first)

-- ---- handles

pub file_or_dir : (o : Option Node) → (is_dir o ≡ true) ⊎ IsFile o → is_dir o ≡ false → IsFile o
file_or_dir o (inl h) plain = cc
file_or_dir o (inr f) plain = f

open_at : (N : ℕ) (s : State) → Sound N s → (p : List ℕ) (e : End) → Resolve s.tree p true e → Sound N (reached s e (opens s)).1
open_at N s sound p (Refused r) res = sound
open_at N s sound p (At n) res =
    checked_sound N s (when (is_dir (node s.tree n)) IsDir ∷ no_handle s ∷ [])
    (Handle (least_handle s.handles), record s { handles = put nat_cmp (least_handle s.handles) n s.handles }) sound (λ ok.
    let few_open : nat_le 64 (least_handle s.handles) ≡ false = ok.1.0 in
    opened_sound N s n sound (grind (arith, nat_tests)) (file_or_dir (node s.tree n) (by (text_refusal p) res) ok.0))
  where
    by : (r : Option Refusal) → MatchOption r (Walk s.tree true 1 (comps p) (slash p) 0 (At n)) (λ r. At n ≡ Refused r)
        → (is_dir (node s.tree n) ≡ true) ⊎ IsFile (node s.tree n)
    by None w = ends_at_node s.tree sound.in_order sound.root w sound.root
    by (Some r) e = cc

pub open_keeps : (N : ℕ) (s s' : State) (p : List ℕ) {a : Answer} → Sound N s → Step N s (Open p) a s' → Sound N s'
open_keeps N s s' p sound st = subst (Sound N) st.state (open_at N s sound p st.first_end st.first)

is_open : (o : Option ℕ) → is_none o ≡ false → o ≡ Some (unwrap_or o 0)
is_open None h = cc
is_open (Some k) h = refl

file_at_handle : (N : ℕ) (s : State) → Sound N s → (h : ℕ) → is_none (find nat_cmp h s.handles) ≡ false → IsFile (node s.tree (file_at s h))
file_at_handle N s sound h e = (sound.handles h (file_at s h) (is_open (find nat_cmp h s.handles) e)).1

not_dir : (o : Option Node) → IsFile o → is_dir o ≡ false
not_dir o f = ap is_dir f.1

pub close_keeps : (N : ℕ) (s : State) {s' : State} (h : ℕ) (a : Answer) → Sound N s → Step N s (Close h) a s' → Sound N s'
close_keeps N s h a sound st =
    let rest : Handles = without nat_cmp h s.handles in
    subst (Sound N) st.state
    (checked_sound N s (bad_handle s h ∷ []) (Done, record s { tree = let_go s.tree rest (file_at s h); handles = rest }) sound (λ ok.
    let_go_sound N (record s { handles = rest }) (file_at s h)
    (shut_sound N s h (file_at s h) sound (is_open (find nat_cmp h s.handles) ok.0))
    (not_dir (node s.tree (file_at s h)) (file_at_handle N s sound h ok.0))))

-- ---- a file's bytes

bytes_at : (o : Option Node) (b : List ℕ) → o ≡ Some (File b) → file_bytes (unwrap_or o (File [])) ≡ b
bytes_at o b is = ap (λ o. file_bytes (unwrap_or o (File []))) is

pub pwrite_keeps : (N : ℕ) (s s' : State) (h off : ℕ) (w : List ℕ) (a : Answer) → Sound N s → AreArguments (Pwrite h off w)
    → Step N s (Pwrite h off w) a s' → Sound N s'
pwrite_keeps N s s' h off w a sound args st = subst (Sound N) st.state (
    checked_sound N s (bad_handle s h ∷ when (nat_lt 65536 (length w)) Inval ∷ (length w == 0, Count 0)
    ∷ when (nat_lt 8511488 (off + length w)) FileTooBig ∷ no_space N t' ∷ []) (Count (length w), with_tree s t') sound (λ ok.
    let file = file_at_handle N s sound h ok.0 in
    let was : file_bytes (the_node s.tree n) ≡ file.0 = bytes_at (node s.tree n) file.0 file.1 in
    let limits : IsWithinLimits (File file.0) = sound.limits n (File file.0) file.1 in
    let far : nat_lt 8511488 (off + length w) ≡ false = ok.1.1.1.0 in
    let end : off + length w ≤ 8511488 = grind (arith, nat_tests) in
    let room : nat_lt (47 * N) (need t') ≡ false = ok.1.1.1.1.0 in
    let fits : need t' ≤ 47 * N = grind (arith, nat_tests) in
    let good : IsWithinLimits (File (bytes.put file.0 off w)) =
    (put_length file.0 off w 8511488 limits.0 end, put_bytes file.0 off w limits.1 args.2) in
    let now : IsWithinLimits (File (bytes.put (file_bytes (the_node s.tree n)) off w)) =
    subst (λ b. IsWithinLimits (File (bytes.put b off w))) (sym was) good in
    written_sound N s n file.0 (bytes.put (file_bytes (the_node s.tree n)) off w) sound file.1 now fits))
  where
    n : ℕ
    n = file_at s h

    t' : Tree
    t' = with_node s.tree n (File (bytes.put (file_bytes (the_node s.tree n)) off w))

-- truncate never adds to the need
pub truncate_keeps : (N : ℕ) (s s' : State) (h len : ℕ) (a : Answer) → Sound N s → Step N s (Truncate h len) a s' → Sound N s'
truncate_keeps N s s' h len a sound st = subst (Sound N) st.state (
    checked_sound N s (bad_handle s h ∷ when (nat_lt 8511488 len) FileTooBig ∷ []) (Done, with_tree s t') sound (λ ok.
    let file = file_at_handle N s sound h ok.0 in
    let was : file_bytes (the_node s.tree n) ≡ file.0 = bytes_at (node s.tree n) file.0 file.1 in
    let limits : IsWithinLimits (File file.0) = sound.limits n (File file.0) file.1 in
    let far : nat_lt 8511488 len ≡ false = ok.1.0 in
    let end : len ≤ 8511488 = grind (arith, nat_tests) in
    let good : IsWithinLimits (File (bytes.cut file.0 len)) =
    (let long = length-cut file.0 len in omega arith, cut_bytes file.0 len limits.1) in
    let now : IsWithinLimits (File (bytes.cut (file_bytes (the_node s.tree n)) len)) =
    subst (λ b. IsWithinLimits (File (bytes.cut b len))) (sym was) good in
    written_sound N s n file.0 (bytes.cut (file_bytes (the_node s.tree n)) len) sound file.1 now (fits file.0 was file.1)))
  where
    n : ℕ
    n = file_at s h

    t' : Tree
    t' = with_node s.tree n (File (bytes.cut (file_bytes (the_node s.tree n)) len))

    fits : (b : List ℕ) → file_bytes (the_node s.tree n) ≡ b → node s.tree n ≡ Some (File b) → need t' ≤ 47 * N
    fits b was is =
        let change = need-with_node s.tree n (File (bytes.cut (file_bytes (the_node s.tree n)) len)) sound.in_order in
        let before : cost_at (node s.tree n) ≡ cost (File b) = ap cost_at is in
        let less : cost (File (bytes.cut (file_bytes (the_node s.tree n)) len)) ≤ cost (File b) =
        subst (λ c. cost (File (bytes.cut c len)) ≤ cost (File b)) (sym was) (cut_cost b len) in
        let room = sound.room in
        omega (arith, change, before, less, room)
