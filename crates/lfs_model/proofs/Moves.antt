-- A name that goes, and a name that gives way to another: the state after it is sound.
use Rattle.std.proofs.Common.{◌≡◌, ◌≢◌, refl, sym, ap, subst, ◌∙◌, ℕ, ◌+◌, ◌*◌, ◌<◌, ◌≤◌, true, false, ◌&&◌, List, [], Option, Some, None}
use Rattle.std.proofs.Common.{arith, cond, inl, inr, eqb, ◌⊎◌, length}
use Rattle.std.specs.Prelude.{unwrap_or, if◌then◌else◌, ◌==◌, is_some}
use Rattle.std.proofs.lemmas.Bool.{eq-eqb}
use Rattle.std.proofs.lemmas.Bool.Decides.{nat_tests}
use Rattle.std.specs.Ordering.{nat_cmp}
use Rattle.std.specs.Cmp.Lexicographic.{nat_list_cmp_total}
use Rattle.std.specs.FinMap.{find}
use Rattle.std.specs.FinMap.Entries.{length_without}
use Rattle.lfs_model.specs.Tree.{Tree, Names, Node, File, Dir, State, node, without, names_in, names_of, form_of, name_len, name_limit}
use Rattle.lfs_model.specs.Tree.{is_dir, entry, byte_cmp, names, links, opened, with_name, without_name}
use Rattle.lfs_model.specs.Need.{need}
use Rattle.lfs_model.specs.Sound.{Sound, IsReachable, IsGoodName, IsWithinLimits}
use Rattle.lfs_model.specs.Step.{let_go, with_tree}
use Rattle.lfs_model.proofs.Growing.{same_or_not}
use Rattle.lfs_model.proofs.Makes.{dir_at}
use Rattle.lfs_model.proofs.Dropping.{let_go_sound, opened_file}
use Rattle.lfs_model.proofs.Detached.{IsDetached, Under, links2, removed_sound}
use Rattle.lfs_model.proofs.Unlinks as out
use Rattle.lfs_model.proofs.Shrinking as shrinks
use Rattle.lfs_model.proofs.Naming.{named_sound, leaf_names_are}
use Rattle.lfs_model.proofs.Attaching.{attached_sound}

-- a file, a link, or a directory without entries
abbrev pub IsLight : Option Node → Type 0
IsLight o = (is_dir o ≡ false) ⊎ ((form : ℕ) × (o ≡ Some (Dir form [])))

-- ---- a name goes

module _ (N : ℕ) (s : State) (sound : Sound N s) (d n : ℕ) (nm : List ℕ) (is_d : is_dir (node s.tree d) ≡ true)
    (found : entry s.tree d nm ≡ Some n) where
  abbrev pub form : ℕ
  form = form_of (node s.tree d)

  abbrev pub m : Names
  m = names_in s.tree d

  is : node s.tree d ≡ Some (Dir form m)
  is = dir_at (node s.tree d) is_d

  abbrev pub t1 : Tree
  t1 = without_name s.tree d nm

  module _ (empty_form : ℕ) (empty : node s.tree n ≡ Some (Dir empty_form [])) where
    apart : n ≢ d
    apart e =
        let at : node s.tree d ≡ Some (Dir empty_form []) = subst (λ x. node s.tree x ≡ Some (Dir empty_form [])) e empty in
        let none : entry s.tree d nm ≡ None = ap (λ o. find byte_cmp nm (names_of (unwrap_or o (File [])))) at in
        cc

    dir : is_dir (node s.tree n) ≡ true
    dir = ap is_dir empty

    free : IsDetached N (with_tree s t1) n
    free = out.detached N s sound d n form m nm is found dir

    still_empty : node t1 n ≡ Some (Dir empty_form [])
    still_empty = out.kept N s sound d n form m nm is found n apart ∙ empty

    shut : opened s.handles n ≡ 0
    shut = elim (opened_file s n sound.handles_in_order sound.handles) as (λ _. opened s.handles n ≡ 0) [
      | inl none ↦ none
      | inr file ↦ let held = file.1 in cc
    ]

    goes : (names t1 n == 0 && opened s.handles n == 0) ≡ true
    goes = let one : (names t1 n == 0) ≡ true = eq-eqb (names t1 n) 0 free.unnamed in
        let two : (opened s.handles n == 0) ≡ true = eq-eqb (opened s.handles n) 0 shut in rw (one, two) refl

    -- no directory has a link more for it
    pub empty_links : (q : ℕ) → q ≢ n → links (let_go t1 s.handles n) q ≤ links t1 q
    empty_links q ne = subst (λ b. links (if b then without nat_cmp n t1 else t1) q ≤ links t1 q) (sym goes)
        (links2 N (with_tree s t1) n empty_form free still_empty q ne)

    empty_gone : Sound N (with_tree s (let_go t1 s.handles n))
    empty_gone = subst (λ b. Sound N (with_tree s (if b then without nat_cmp n t1 else t1))) (sym goes)
        (removed_sound N (with_tree s t1) n empty_form free still_empty
        (let less = out.less_need N s sound d n form m nm is found in let fits = sound.room in omega arith))

  -- an unlink, or an rmdir
  pub gone_sound : IsLight (node s.tree n) → Sound N (with_tree s (let_go t1 s.handles n))
  gone_sound (inl plain) = let_go_sound N (with_tree s t1) n (out.lost_sound N s sound d n form m nm is found plain)
      (out.still_plain N s sound d n form m nm is found plain)
  gone_sound (inr empty) = empty_gone empty.0 empty.1

-- ---- a node that is there is given by a free name in place of one that goes

pub none_if : {A B : Type 0} (o : Option A) (p : Option B) → ((k : A) → o ≡ Some k → (x : B) × (p ≡ Some x)) → p ≡ None → o ≡ None
none_if None p h e = refl
none_if (Some k) p h e = let is = (h k refl).1 in cc

module _ (N : ℕ) (s : State) (sound : Sound N s) (da db n : ℕ) (na nb : List ℕ) (is_a : is_dir (node s.tree da) ≡ true)
    (found : entry s.tree da na ≡ Some n) (is_b : is_dir (node s.tree db) ≡ true)
    (absent : entry s.tree db nb ≡ None) (good : IsGoodName (name_limit s.tree db) nb) (few : da ≢ db → length (names_in s.tree db) < 1024)
    (fits : need (with_name (without_name s.tree da na) db nb n) ≤ 47 * N) where
  abbrev t : Tree
  t = s.tree

  abbrev form_a : ℕ
  form_a = form_of (node t da)

  abbrev names_a : Names
  names_a = names_in t da

  at_a : node t da ≡ Some (Dir form_a names_a)
  at_a = dir_at (node t da) is_a

  abbrev pub u : Tree
  u = without_name t da na

  abbrev form_b : ℕ
  form_b = form_of (node u db)

  abbrev names_b : Names
  names_b = names_in u db

  is_b' : is_dir (node u db) ≡ true
  is_b' = out.dirs_same N s sound da n form_a names_a na at_a found db ∙ is_b

  at_b : node u db ≡ Some (Dir form_b names_b)
  at_b = dir_at (node u db) is_b'

  abbrev names_at : Option Node → Names
  names_at o = names_of (unwrap_or o (File []))

  now_a : node u da ≡ Some (Dir form_a (without byte_cmp na names_a))
  now_a = out.dir_now N s sound da n form_a names_a na at_a found

  form_kept : form_b ≡ form_of (node t db)
  form_kept = same_or_not da db
      (λ e. subst (λ d. form_of (node u d) ≡ form_of (node t d)) e (ap form_of now_a))
      (λ ne. ap form_of (out.kept N s sound da n form_a names_a na at_a found db (λ e. ne (sym e))))

  good_b : IsGoodName (name_len form_b) nb
  good_b = subst (λ f. IsGoodName (name_len f) nb) (sym form_kept) good

  absent_b : find byte_cmp nb names_b ≡ None
  absent_b =
      none_if (entry u db nb) (entry t db nb) (λ k e. (k, out.was_entry N s sound da n form_a names_a na at_a found db nb k e)) absent

  limits_a : IsWithinLimits (Dir form_a names_a)
  limits_a = sound.limits da (Dir form_a names_a) at_a

  -- the name that goes leaves room for one
  one_less : length (without byte_cmp na names_a) + 1 ≡ length names_a
  one_less =
      let less = length_without byte_cmp nat_list_cmp_total na names_a limits_a.0 in
      let one : ◌≡◌ {A = ℕ} (cond (is_some (find byte_cmp na names_a)) 1 0) 1 = ap (λ o. cond (is_some o) 1 0) found in
      omega (arith, less, one)

  few_b : length names_b < 1024
  few_b = same_or_not da db
      (λ e. subst (λ d. length (names_in u d) < 1024) e (
      let now : length (names_in u da) ≡ length (without byte_cmp na names_a) = ap (λ o. length (names_at o)) now_a in
      let less = one_less in
      let most = limits_a.1 in
      omega arith))
      (λ ne. let same : length names_b ≡ length (names_in t db) = ap (λ o. length (names_at o))
      (out.kept N s sound da n form_a names_a na at_a found db (λ e. ne (sym e))) in let old = few ne in omega arith)

  there : node u n ≢ None
  there = out.here N s sound da n form_a names_a na at_a found n (sound.named da na n found)

  pub leaf_moved : is_dir (node t n) ≡ false → Sound N (with_tree s (with_name u db nb n))
  leaf_moved plain =
      named_sound N (with_tree s u) db n form_b names_b nb (out.lost_sound N s sound da n form_a names_a na at_a found plain) at_b there
      (out.still_plain N s sound da n form_a names_a na at_a found plain) absent_b good_b few_b room fits
    where
      room : names u n < 1000
      room =
          let less = shrinks.names_after t da n form_a names_a na sound.in_order at_a limits_a.0 found n in
          let itself_is : eqb n n ≡ true = grind (arith, nat_tests) in
          let step : ◌≡◌ {A = ℕ} (if n == n then 1 else 0) 1 = rw itself_is refl in
          let most = sound.few_links n (sound.named da na n found) in
          let are = leaf_names_are t n (node t n) plain in
          omega arith

  pub dir_moved : is_dir (node t n) ≡ true → (da ≢ db → links t db < 1000) → (Under u n db → ⊥)
      → Sound N (with_tree s (with_name u db nb n))
  dir_moved dir more away = attached_sound N (with_tree s u) db n form_b names_b nb free at_b
      (elim (free.reached db is_b') as (λ _. IsReachable u db) [ inl r ↦ r | inr v ↦ absurd (away v) ]) absent_b good_b few_b room fits
    where
      free : IsDetached N (with_tree s u) n
      free = out.detached N s sound da n form_a names_a na at_a found dir

      there_b : node t db ≢ None
      there_b none = let plain : is_dir (node t db) ≡ false = ap is_dir none in cc

      room : links u db < 1000
      room = same_or_not da db
          (λ e. subst (λ d. links u d < 1000) e (
          let less = shrinks.links_lost t da n form_a names_a na sound.in_order at_a limits_a.0 found dir in
          let most = sound.few_links da (λ none. let plain : is_dir (node t da) ≡ false = ap is_dir none in cc) in
          omega arith))
          (λ ne. let less = shrinks.links_less t da n form_a names_a na sound.in_order at_a limits_a.0 found db in let old = more ne in
          omega arith)
