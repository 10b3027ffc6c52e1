-- mkdir, rmdir and rename keep a state sound.
use Rattle.std.proofs.Common.{◌≡◌, ◌≢◌, refl, sym, ap, subst, ◌∙◌, ℕ, ◌*◌, ◌<◌, ◌≤◌, Bool, true, false, ◌&&◌, ◌||◌, List, [], ◌∷◌}
use Rattle.std.proofs.Common.{◌++◌, Option, Some, None, arith, inl, inr, eqb, length}
use Rattle.std.specs.Prelude.{◌==◌, not, is_some, unwrap_or, if◌then◌else◌, nat_lt, nat_le}
use Rattle.std.proofs.lemmas.Bool.{eq-eqb}
use Rattle.std.proofs.lemmas.Bool.Decides.{nat_tests}
use Rattle.std.specs.FinMap.{find, put}
use Rattle.lfs_model.specs.Bytes.{AreBytes}
use Rattle.lfs_model.specs.Tree.{Tree, Names, Node, File, Dir, State, node, with_node, names_in, names_of, is_dir, form_of, name_len}
use Rattle.lfs_model.specs.Tree.{IsDirectoryForm, name_limit, new_form, entry, byte_cmp, least, links, names, with_name, without_name}
use Rattle.lfs_model.specs.Refusal.{Busy, Inval, NameTooLong, NoEntry, NotDir, NotEmpty, TooManyLinks}
use Rattle.lfs_model.specs.Walk.{End, At, Refused, Parent}
use Rattle.lfs_model.specs.Need.{need}
use Rattle.lfs_model.specs.Sound.{Sound, IsReachable, IsGoodName}
use Rattle.lfs_model.specs.Call.{Mkdir, Rmdir, Rename, Answer, Done, AreArguments}
use Rattle.lfs_model.specs.Step.{Step, reached, when, name, target, new_entry, no_number, no_space, let_go, with_tree, with_new, makes_dir}
use Rattle.lfs_model.specs.Step.{removes_dir, renames, rename_list, no_last, last_dots, is_long, is_there, gives_dir, is_within}
use Rattle.lfs_model.proofs.GoodNames.{good_name}
use Rattle.lfs_model.proofs.Leasts.{least_free}
use Rattle.lfs_model.proofs.Trees.{find_here, find_other}
use Rattle.lfs_model.proofs.Shrinking.{named_counts}
use Rattle.lfs_model.proofs.Unlinks as out
use Rattle.lfs_model.proofs.Makes.{dir_at, not_some, starts_one}
use Rattle.lfs_model.proofs.Detached.{IsDetached, Under, new_detached, same_links, under_only}
use Rattle.lfs_model.proofs.Attaching.{attached_sound}
use Rattle.lfs_model.proofs.Climbing.{under_within}
use Rattle.lfs_model.proofs.Swaps.{change_more}
use Rattle.lfs_model.proofs.Moves.{IsLight, gone_sound, leaf_moved, dir_moved}
use Rattle.lfs_model.proofs.Overwrites as over
use Rattle.lfs_model.proofs.Overwrites.{light_at}
use Rattle.lfs_model.proofs.Keeps.{checked_sound, good_text, parent_dir, is_found}
use Rattle.lfs_model.proofs.Versions.{new_form_known}

or_false : (a b : Bool) → (a || b) ≡ false → (a ≡ false) × (b ≡ false)
or_false true b e = cc
or_false false b e = (refl, e)

-- ---- mkdir

module _ (N : ℕ) (s : State) (sound : Sound N s) (d : ℕ) (nm : List ℕ) (is_d : is_dir (node s.tree d) ≡ true)
    (absent : entry s.tree d nm ≡ None) (good : IsGoodName (name_limit s.tree d) nm)
    (few : length (names_in s.tree d) < 1024) (most : links s.tree d < 1000) (top : least s.tree ≤ 4095)
    (fits : need (with_node (with_name s.tree d nm (least s.tree)) (least s.tree) (Dir (new_form s.version) [])) ≤ 47 * N) where
  n : ℕ
  n = least s.tree

  free : (1 ≤ n) × (node s.tree n ≡ None)
  unfolding n
  free = least_free 1 s.tree sound.in_order (starts_one s.tree sound.numbers)

  known : IsDirectoryForm s.version (new_form s.version)
  known = new_form_known s.version sound.version

  abbrev made : Node
  made = Dir (new_form s.version) []

  abbrev t1 : Tree
  t1 = with_node s.tree n made

  other : d ≢ n
  other e = let none : node s.tree d ≡ None = subst (λ x. node s.tree x ≡ None) (sym e) free.1 in
      let plain : is_dir (node s.tree d) ≡ false = ap is_dir none in cc

  at_n : node t1 n ≡ Some made
  at_n = find_here s.tree n made

  kept : node t1 d ≡ node s.tree d
  kept = find_other s.tree n made d other

  in_range : (1 ≤ n) × (n ≤ 4095)
  unfolding n
  in_range = (free.0, top)

  fresh : IsDetached N (with_tree s t1) n
  fresh = new_detached N s sound n (new_form s.version) free.1 in_range known

  is_d1 : is_dir (node t1 d) ≡ true
  is_d1 = ap is_dir kept ∙ is_d

  abbrev names_at : Option Node → Names
  names_at o = names_of (unwrap_or o (File []))

  down : IsReachable t1 d
  down = elim (fresh.reached d is_d1) as (λ _. IsReachable t1 d)
      [ inl r ↦ r | inr u ↦ absurd (other (under_only N (with_tree s t1) n (new_form s.version) fresh at_n u)) ]

  good1 : IsGoodName (name_len (form_of (node t1 d))) nm
  good1 = subst (λ o. IsGoodName (name_len (form_of o)) nm) (sym kept) good

  few1 : length (names_in t1 d) < 1024
  few1 = subst (λ o. length (names_at o) < 1024) (sym kept) few

  absent1 : entry t1 d nm ≡ None
  absent1 = ap (λ o. find byte_cmp nm (names_at o)) kept ∙ absent

  most1 : links t1 d < 1000
  most1 = let same = same_links N s sound n (new_form s.version) free.1 in_range known d other in omega arith

  same_tree : with_node (with_name s.tree d nm n) n made ≡ with_name t1 d nm n
  same_tree = change_more s.tree sound.in_order (put byte_cmp nm n) d n made other

  fits1 : need (with_node (with_name s.tree d nm n) n made) ≤ 47 * N
  unfolding n
  fits1 = fits

  made_dir : Sound N (with_tree s (with_node (with_name s.tree d nm n) n made))
  made_dir = subst (λ u. Sound N (with_tree s u)) (sym same_tree)
      (attached_sound N (with_tree s t1) d n (form_of (node t1 d)) (names_in t1 d) nm fresh
      (dir_at (node t1 d) is_d1) down absent1 good1 few1 most1
      (subst (λ u. need u ≤ 47 * N) same_tree fits1))

  new_dir_sound : Sound N (with_tree s (with_node (with_name s.tree d nm (least s.tree)) (least s.tree) (Dir (new_form s.version) [])))
  unfolding n
  new_dir_sound = made_dir

mkdir_at : (N : ℕ) (s : State) → Sound N s → (p : List ℕ) → AreBytes p → (e : End) → Parent s.tree p e
    → Sound N (reached s e (makes_dir N s p)).1
mkdir_at N s sound p bytes (Refused r) par = sound
mkdir_at N s sound p bytes (At d) par =
    let t' : Tree = with_new s.tree d p (Dir (new_form s.version) []) in
    checked_sound N s (new_entry s.tree d p true ++ when (nat_le 1000 (links s.tree d)) TooManyLinks ∷ no_number s.tree ∷ no_space N t'
    ∷ []) (Done, with_tree s t') sound (λ ok.
    let parent = parent_dir N s sound p d par in
    let free : nat_le 1024 (length (names_in s.tree d)) ≡ false = ok.1.1.1.1.0 in
    let full : nat_le 1000 (links s.tree d) ≡ false = ok.1.1.1.1.1.0 in
    let taken : nat_lt 4095 (least s.tree) ≡ false = ok.1.1.1.1.1.1.0 in
    let space : nat_lt (47 * N) (need t') ≡ false = ok.1.1.1.1.1.1.1.0 in
    let few : length (names_in s.tree d) < 1024 = grind (arith, nat_tests) in
    let most : links s.tree d < 1000 = grind (arith, nat_tests) in
    let top : least s.tree ≤ 4095 = grind (arith, nat_tests) in
    let fits : need t' ≤ 47 * N = grind (arith, nat_tests) in
    new_dir_sound N s sound d (name p) parent.0 (not_some (entry s.tree d (name p)) ok.1.1.0)
    (good_name s.tree d p bytes (good_text p parent.1).0 ok.0 ok.1.0) few most top fits)

pub mkdir_keeps : (N : ℕ) (s s' : State) (p : List ℕ) (a : Answer) → Sound N s → AreArguments (Mkdir p) → Step N s (Mkdir p) a s'
    → Sound N s'
mkdir_keeps N s s' p a sound bytes st = subst (Sound N) st.state (mkdir_at N s sound p bytes st.first_end st.first)

-- ---- rmdir

rmdir_at : (N : ℕ) (s : State) → Sound N s → (p : List ℕ) (e : End) → Parent s.tree p e → Sound N (reached s e (removes_dir s p)).1
rmdir_at N s sound p (Refused r) par = sound
rmdir_at N s sound p (At d) par =
    let n : ℕ = target s.tree d p in
    checked_sound N s
    (when (no_last p) Busy ∷ when (last_dots p) Inval ∷ when (is_long s.tree d p) NameTooLong ∷ when (not (is_there s.tree d p)) NoEntry
    ∷ when (not (gives_dir s.tree d p)) NotDir ∷ when (nat_lt 0 (length (names_in s.tree n))) NotEmpty ∷ [])
    (Done, with_tree s (let_go (without_name s.tree d (name p)) s.handles n)) sound (λ ok.
    gone_sound N s sound d n (name p) (parent_dir N s sound p d par).0 (is_found (entry s.tree d (name p)) ok.1.1.1.0)
    (light_at (node s.tree n) ok.1.1.1.1.1.0))

pub rmdir_keeps : (N : ℕ) (s s' : State) (p : List ℕ) (a : Answer) → Sound N s → Step N s (Rmdir p) a s' → Sound N s'
rmdir_keeps N s s' p a sound st = subst (Sound N) st.state (rmdir_at N s sound p st.first_end st.first)

-- ---- rename

-- the list's conditions where b isn't there, and where it is
abbrev Free : Tree → ℕ → ℕ → ℕ → Type 0
Free t da db n = ((not (da == db) && nat_le 1024 (length (names_in t db))) ≡ false)
    × ((is_dir (node t n) && true && not (da == db) && nat_le 1000 (links t db)) ≡ false)

abbrev Taken : Tree → ℕ → ℕ → Type 0
Taken t n old = ((n == old) ≡ false) × ((is_dir (node t old) && not (is_dir (node t n))) ≡ false)
    × ((is_dir (node t n) && not (is_dir (node t old))) ≡ false) × (nat_lt 0 (length (names_in t old)) ≡ false)

apart_then : (a b : ℕ) (c : Bool) → (not (a == b) && c) ≡ false → a ≢ b → c ≡ false
apart_then a b c h ne = let other : eqb a b ≡ false = grind (arith, nat_tests) in rw other at h

and_then : (a b : Bool) → (a && b) ≡ false → a ≡ true → b ≡ false
and_then true b h e = h
and_then false b h e = cc

dir_and : (a b c : Bool) → (a && true && b && c) ≡ false → a ≡ true → (b && c) ≡ false
dir_and true b c h e = h
dir_and false b c h e = cc

not_false : (b : Bool) → not b ≡ false → b ≡ true
not_false true h = refl
not_false false h = cc

module _ (N : ℕ) (s : State) (sound : Sound N s) (da db n : ℕ) (na nb : List ℕ) (is_a : is_dir (node s.tree da) ≡ true)
    (found : entry s.tree da na ≡ Some n) (is_b : is_dir (node s.tree db) ≡ true)
    (good : IsGoodName (name_limit s.tree db) nb) (away : is_within s.tree n db ≡ false) where
  abbrev t : Tree
  t = s.tree

  abbrev moved : Tree
  moved = with_name (without_name t da na) db nb n

  inner : n ≢ 1
  inner e =
      let counts = named_counts t da na n found in
      let none : names t n ≡ 0 = subst (λ y. names t y ≡ 0) (sym e) sound.root_unnamed in
      absurd (omega arith)

  -- the directory that it comes into isn't one of its own
  outside : (u : Tree) → ((q : ℕ) (x : List ℕ) (k : ℕ) → entry u q x ≡ Some k → entry t q x ≡ Some k) → Under u n db → ⊥
  outside u fewer v = let within = under_within N s sound u fewer n db inner v is_b in let h = away in cc

  to_free : entry t db nb ≡ None → Free t da db n → need moved ≤ 47 * N → Sound N (with_tree s moved)
  to_free absent ok fits = elim (is_dir (node t n)) as (λ b. is_dir (node t n) ≡ b → Sound N (with_tree s moved)) [
    | false ↦ λ plain. leaf_moved N s sound da db n na nb is_a found is_b absent good few fits plain
    | true ↦ λ dir. dir_moved N s sound da db n na nb is_a found is_b absent good few fits dir (most dir)
        (outside (without_name t da na)
        (out.was_entry N s sound da n (form_of (node t da)) (names_in t da) na (dir_at (node t da) is_a) found))
  ] refl
    where
      few : da ≢ db → length (names_in t db) < 1024
      few ne = let h : nat_le 1024 (length (names_in t db)) ≡ false = apart_then da db (nat_le 1024 (length (names_in t db))) ok.0 ne in
          grind (arith, nat_tests)

      most : is_dir (node t n) ≡ true → da ≢ db → links t db < 1000
      most dir ne =
          let h : nat_le 1000 (links t db) ≡ false = apart_then da db (nat_le 1000 (links t db))
          (dir_and (is_dir (node t n)) (not (da == db)) (nat_le 1000 (links t db)) ok.1 dir) ne in
          grind (arith, nat_tests)

  to_taken : (old : ℕ) → entry t db nb ≡ Some old → Taken t n old → need (let_go moved s.handles old) ≤ 47 * N
      → Sound N (with_tree s (let_go moved s.handles old))
  to_taken old taken ok fits =
      elim (is_dir (node t n)) as (λ b. is_dir (node t n) ≡ b → Sound N (with_tree s (let_go moved s.handles old))) [
        | false ↦ λ plain. over.leaf_over N s sound da db n old na nb is_a found is_b taken other light good fits plain
        | true ↦ λ dir. over.dir_over N s sound da db n old na nb is_a found is_b taken other light good fits dir
            (not_false (is_dir (node t old)) (and_then (is_dir (node t n)) (not (is_dir (node t old))) ok.2 dir))
            (outside (without_name (over.s1 N s sound da db n old na nb is_a found is_b taken other light good fits).tree da na)
            (over.entries_were N s sound da db n old na nb is_a found is_b taken other light good fits))
      ] refl
    where
      other : n ≢ old
      other e = let same = eq-eqb n old e in let h = ok.0 in cc

      light : IsLight (node t old)
      light = light_at (node t old) ok.3

  abbrev after : Option ℕ → Tree
  after o = if is_some o then let_go moved s.handles (unwrap_or o 0) else moved

  abbrev Passes : Option ℕ → Type 0
  Passes o = ((is_some o && n == unwrap_or o 0) ≡ false)
      × ((is_some o && is_dir (node t (unwrap_or o 0)) && not (is_dir (node t n))) ≡ false)
      × ((is_some o && is_dir (node t n) && not (is_dir (node t (unwrap_or o 0)))) ≡ false)
      × ((is_some o && nat_lt 0 (length (names_in t (unwrap_or o 0)))) ≡ false)
      × ((not (is_some o) && not (da == db) && nat_le 1024 (length (names_in t db))) ≡ false)
      × ((is_dir (node t n) && not (is_some o) && not (da == db) && nat_le 1000 (links t db)) ≡ false)
      × (need (after o) ≤ 47 * N)

  renamed_sound : (o : Option ℕ) → entry t db nb ≡ o → Passes o → Sound N (with_tree s (after o))
  renamed_sound None absent ok = to_free absent (ok.4, ok.5) ok.6
  renamed_sound (Some old) taken ok = to_taken old taken (ok.0, ok.1, ok.2, ok.3) ok.6

rename_to : (N : ℕ) (s : State) → Sound N s → (a b : List ℕ) (da : ℕ) → AreBytes b → is_dir (node s.tree da) ≡ true → (f : End)
    → Parent s.tree b f → Sound N (reached s f (renames N s a b da)).1
rename_to N s sound a b da bytes is_a (Refused r) par = sound
rename_to N s sound a b da bytes is_a (At db) par =
    let t : Tree = s.tree in
    let n : ℕ = target t da a in
    let old : ℕ = target t db b in
    let moved : Tree = with_name (without_name t da (name a)) db (name b) n in
    let t' : Tree = if is_there t db b then let_go moved s.handles old else moved in
    checked_sound N s (rename_list N s a b da db t') (Done, with_tree s t') sound (λ ok.
    let parent = parent_dir N s sound b db par in
    let lasts = or_false (no_last a) (no_last b) ok.0 in
    let dots = or_false (last_dots a) (last_dots b) ok.1.0 in
    let good_end : (no_last b || last_dots b) ≡ false = rw (lasts.1, dots.1) refl in
    let found = is_found (entry t da (name a)) ok.1.1.1.0 in
    let space : nat_lt (47 * N) (need t') ≡ false = ok.1.1.1.1.1.1.1.1.1.1.1.1.1.1.0 in
    let fits : need t' ≤ 47 * N = grind (arith, nat_tests) in
    renamed_sound N s sound da db n (name a) (name b) is_a found parent.0
    (good_name t db b bytes (good_text b parent.1).0 good_end ok.1.1.1.1.1.0) ok.1.1.1.1.1.1.1.1.0
    (entry t db (name b)) refl (
      ok.1.1.1.1.1.1.1.0,
      ok.1.1.1.1.1.1.1.1.1.0,
      ok.1.1.1.1.1.1.1.1.1.1.0,
      ok.1.1.1.1.1.1.1.1.1.1.1.0,
      ok.1.1.1.1.1.1.1.1.1.1.1.1.0,
      ok.1.1.1.1.1.1.1.1.1.1.1.1.1.0,
      fits,
    ))

rename_at : (N : ℕ) (s : State) → Sound N s → (a b : List ℕ) → AreBytes b → (e f : End) → Parent s.tree a e → Parent s.tree b f
    → Sound N (reached s e (λ da. reached s f (renames N s a b da))).1
rename_at N s sound a b bytes (Refused r) f par_a par_b = sound
rename_at N s sound a b bytes (At da) f par_a par_b = rename_to N s sound a b da bytes (parent_dir N s sound a da par_a).0 f par_b

pub rename_keeps : (N : ℕ) (s s' : State) (a b : List ℕ) (r : Answer) → Sound N s → AreArguments (Rename a b) → Step N s (Rename a b) r s'
    → Sound N s'
rename_keeps N s s' a b r sound args st =
    subst (Sound N) st.state (rename_at N s sound a b args.1 st.first_end st.second_end st.first st.second)
