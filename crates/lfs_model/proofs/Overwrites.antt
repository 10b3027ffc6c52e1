-- A name that gives way to another: the state after it is sound.
use Rattle.std.proofs.Common.{◌≡◌, ◌≢◌, refl, sym, ap, subst, ◌∙◌, ℕ, ◌+◌, ◌*◌, ◌<◌, ◌≤◌, Bool, true, false, ◌&&◌, List, [], ◌∷◌, Option}
use Rattle.std.proofs.Common.{Some, None, arith, cond, inl, inr, length}
use Rattle.std.specs.Prelude.{T, unwrap_or, if◌then◌else◌, ◌==◌, is_some, not, nat_lt}
use Rattle.std.proofs.lemmas.Bool.Decides.{nat_tests}
use Rattle.std.specs.Ordering.{nat_cmp, eq_by_cmp, is_eq}
use Rattle.std.specs.Cmp.{tied_itself}
use Rattle.std.proofs.lemmas.Cmp.{nat_cmp_total}
use Rattle.std.specs.Cmp.Lexicographic.{nat_list_cmp_total}
use Rattle.std.specs.FinMap.{find, put, is_sorted}
use Rattle.std.specs.FinMap.Entries.{length_without, is_sorted-where_key}
use Rattle.lfs_model.specs.Tree.{Tree, Names, Node, File, Dir, Link, State, node, without, names_in, names_of, form_of, name_len}
use Rattle.lfs_model.specs.Tree.{name_limit, is_dir, entry, byte_cmp, names, links, opened, with_name, without_name}
use Rattle.lfs_model.specs.Need.{need}
use Rattle.lfs_model.specs.Sound.{Sound, IsGoodName, IsWithinLimits}
use Rattle.lfs_model.specs.Step.{let_go, with_tree}
use Rattle.lfs_model.proofs.Growing.{same_or_not}
use Rattle.lfs_model.proofs.Makes.{dir_at}
use Rattle.lfs_model.proofs.Detached.{Under, holder}
use Rattle.lfs_model.proofs.Unlinks as out
use Rattle.lfs_model.proofs.Shrinking as shrinks
use Rattle.lfs_model.proofs.Gaining as gains
use Rattle.lfs_model.proofs.Sums.{find_without}
use Rattle.lfs_model.proofs.Trees.{find_here, find_other, cmp_same, cmp_other}
use Rattle.lfs_model.proofs.Swaps.{rename_over, change_less, change_order}
use Rattle.lfs_model.proofs.Moves.{IsLight, gone_sound, empty_links, none_if, leaf_moved, dir_moved}

pub light_at : (o : Option Node) → nat_lt 0 (length (names_of (unwrap_or o (File [])))) ≡ false → IsLight o
light_at None h = inl refl
light_at (Some (File b)) h = inl refl
light_at (Some (Link text)) h = inl refl
light_at (Some (Dir form [])) h = inr (form, refl)
light_at (Some (Dir form (e ∷ m))) h = absurd (let some : 0 < length (e ∷ m) = omega arith in grind (arith, nat_tests))

-- what has an entry isn't light
not_light : (o : Option Node) (x : List ℕ) (k : ℕ) → find byte_cmp x (names_of (unwrap_or o (File []))) ≡ Some k → IsLight o → ⊥
not_light o x k e (inl plain) = let dir = holder o x k e in cc
not_light o x k e (inr empty) = let none : find byte_cmp x (names_of (unwrap_or o (File []))) ≡ None =
    ap (λ o. find byte_cmp x (names_of (unwrap_or o (File [])))) empty.1 in cc

abbrev left_if : Bool → ℕ → Tree → Tree
left_if b j t = if b then without nat_cmp j t else t

left_alone : (b : Bool) (j q : ℕ) (t : Tree) → q ≢ j → node (left_if b j t) q ≡ node t q
left_alone true j q t ne = find_without nat_cmp_total j q t ∙ ap (λ b. cond b None (node t q)) (cmp_other q j ne)
left_alone false j q t ne = refl

left_entry : (b : Bool) (j q : ℕ) (t : Tree) (x : List ℕ) (k : ℕ) → entry (left_if b j t) q x ≡ Some k → entry t q x ≡ Some k
left_entry false j q t x k e = e
left_entry true j q t x k e = same_or_not q j
    (λ same.
    let gone : node (without nat_cmp j t) q ≡ None = subst (λ y. node (without nat_cmp j t) y ≡ None) (sym same)
    (find_without nat_cmp_total j j t ∙ ap (λ b. cond b None (node t j)) (cmp_same j)) in
    let none : entry (without nat_cmp j t) q x ≡ None = ap (λ o. find byte_cmp x (names_of (unwrap_or o (File [])))) gone in
    cc)
    (λ ne. sym (ap (λ o. find byte_cmp x (names_of (unwrap_or o (File [])))) (left_alone true j q t ne)) ∙ e)

module _ (N : ℕ) (s : State) (sound : Sound N s) (da db n old : ℕ) (na nb : List ℕ) (is_a : is_dir (node s.tree da) ≡ true)
    (found : entry s.tree da na ≡ Some n) (is_b : is_dir (node s.tree db) ≡ true)
    (taken : entry s.tree db nb ≡ Some old) (other : n ≢ old) (light : IsLight (node s.tree old))
    (good : IsGoodName (name_limit s.tree db) nb)
    (fits : need (let_go (with_name (without_name s.tree da na) db nb n) s.handles old) ≤ 47 * N) where
  abbrev t : Tree
  t = s.tree

  abbrev form_b : ℕ
  form_b = form_of (node t db)

  abbrev names_b : Names
  names_b = names_in t db

  at_b : node t db ≡ Some (Dir form_b names_b)
  at_b = dir_at (node t db) is_b

  limits_b : IsWithinLimits (Dir form_b names_b)
  limits_b = sound.limits db (Dir form_b names_b) at_b

  -- without the name that gives way
  abbrev first : Tree
  first = without_name t db nb

  -- whether its node goes with it
  abbrev test : Bool
  test = names first old == 0 && opened s.handles old == 0

  abbrev pub s1 : State
  s1 = with_tree s (let_go first s.handles old)

  sound1 : Sound N s1
  sound1 = gone_sound N s sound db old nb is_b taken light

  apart_a : da ≢ old
  apart_a e = not_light (node t da) na n found (subst (λ y. IsLight (node t y)) (sym e) light)

  apart_b : db ≢ old
  apart_b e = not_light (node t db) nb old taken (subst (λ y. IsLight (node t y)) (sym e) light)

  dirs1 : (q : ℕ) → q ≢ old → is_dir (node s1.tree q) ≡ is_dir (node t q)
  dirs1 q ne = ap is_dir (left_alone test old q first ne) ∙ out.dirs_same N s sound db old form_b names_b nb at_b taken q

  abbrev names_at : Option Node → Names
  names_at o = names_of (unwrap_or o (File []))

  found_first : entry first da na ≡ Some n
  found_first = shrinks.entry_kept t db old form_b names_b nb sound.in_order at_b limits_b.0 taken da na n other found

  found1 : entry s1.tree da na ≡ Some n
  found1 = ap (λ o. find byte_cmp na (names_at o)) (left_alone test old da first apart_a) ∙ found_first

  now_b : node first db ≡ Some (Dir form_b (without byte_cmp nb names_b))
  now_b = out.dir_now N s sound db old form_b names_b nb at_b taken

  now_b1 : node s1.tree db ≡ Some (Dir form_b (without byte_cmp nb names_b))
  now_b1 = left_alone test old db first apart_b ∙ now_b

  absent1 : entry s1.tree db nb ≡ None
  absent1 = ap (λ o. find byte_cmp nb (names_at o)) now_b1 ∙ find_without nat_list_cmp_total nb nb names_b
      ∙ ap (λ b. cond b None (find byte_cmp nb names_b)) (ap is_eq (tied_itself nat_list_cmp_total nb))

  good1 : IsGoodName (name_limit s1.tree db) nb
  good1 = subst (λ f. IsGoodName (name_len f) nb) (sym (ap form_of now_b1)) good

  few1 : length (names_in s1.tree db) < 1024
  few1 =
      let now : length (names_in s1.tree db) ≡ length (without byte_cmp nb names_b) = ap (λ o. length (names_at o)) now_b1 in
      let less = length_without byte_cmp nat_list_cmp_total nb names_b limits_b.0 in
      let one : ◌≡◌ {A = ℕ} (cond (is_some (find byte_cmp nb names_b)) 1 0) 1 = ap (λ o. cond (is_some o) 1 0) taken in
      let most = limits_b.1 in
      omega (arith, now, less, one, most)

  -- ---- the tree after both is the one after the other order

  abbrev mid : Tree
  mid = without_name first da na

  abbrev both : Tree
  both = with_name mid db nb n

  same_tree : with_name (without_name t da na) db nb n ≡ both
  same_tree = rename_over t sound.in_order da db n na nb limits_b.0

  order_first : T (is_sorted nat_cmp first)
  order_first = change_order t sound.in_order (without byte_cmp nb) db

  order_mid : T (is_sorted nat_cmp mid)
  order_mid = change_order first order_first (without byte_cmp na) da

  is_dir_first : (q : ℕ) → is_dir (node first q) ≡ is_dir (node t q)
  is_dir_first q = out.dirs_same N s sound db old form_b names_b nb at_b taken q

  at_a_first : node first da ≡ Some (Dir (form_of (node first da)) (names_in first da))
  at_a_first = dir_at (node first da) (is_dir_first da ∙ is_a)

  sorted_first : (q f : ℕ) (ms : Names) → node first q ≡ Some (Dir f ms) → T (is_sorted byte_cmp ms)
  sorted_first q f ms at = same_or_not q db
      (λ e. let is : node first db ≡ Some (Dir f ms) = subst (λ y. node first y ≡ Some (Dir f ms)) e at in
      subst (λ (x : Names). T (is_sorted byte_cmp x)) (ap names_at (sym now_b ∙ is))
      (is_sorted-where_key byte_cmp (λ x. not (eq_by_cmp byte_cmp nb x)) names_b limits_b.0))
      (λ ne. (sound.limits q (Dir f ms) (sym (out.kept N s sound db old form_b names_b nb at_b taken q ne) ∙ at)).0)

  less_mid : (q : ℕ) → names mid q + (if n == q then 1 else 0) ≡ names first q
  less_mid = shrinks.names_after first da n (form_of (node first da)) (names_in first da) na order_first at_a_first
      (sorted_first da (form_of (node first da)) (names_in first da) at_a_first) found_first

  dir_mid : (q : ℕ) → is_dir (node mid q) ≡ is_dir (node first q)
  dir_mid = shrinks.dirs first da n (form_of (node first da)) (names_in first da) na order_first at_a_first
      (sorted_first da (form_of (node first da)) (names_in first da) at_a_first) found_first

  at_b_mid : node mid db ≡ Some (Dir (form_of (node mid db)) (names_in mid db))
  at_b_mid = dir_at (node mid db) (dir_mid db ∙ is_dir_first db ∙ is_b)

  absent_first : entry first db nb ≡ None
  absent_first = ap (λ o. find byte_cmp nb (names_at o)) now_b ∙ find_without nat_list_cmp_total nb nb names_b
      ∙ ap (λ b. cond b None (find byte_cmp nb names_b)) (ap is_eq (tied_itself nat_list_cmp_total nb))

  absent_mid : entry mid db nb ≡ None
  absent_mid = none_if (entry mid db nb) (entry first db nb)
      (λ k e. (
        k,
        shrinks.entry_after first da n (form_of (node first da)) (names_in first da) na order_first at_a_first
            (sorted_first da (form_of (node first da)) (names_in first da) at_a_first) found_first db nb k e,
      ))
      absent_first

  sorted_mid : T (is_sorted byte_cmp (names_in mid db))
  sorted_mid = same_or_not da db
      (λ e. subst (λ d. T (is_sorted byte_cmp (names_in mid d))) e (
      subst (λ (x : Names). T (is_sorted byte_cmp x))
      (sym (ap names_at (find_here first da (Dir (form_of (node first da)) (without byte_cmp na (names_in first da))))))
      (is_sorted-where_key byte_cmp (λ x. not (eq_by_cmp byte_cmp na x)) (names_in first da)
      (sorted_first da (form_of (node first da)) (names_in first da) at_a_first))))
      (λ ne. subst (λ (x : Names). T (is_sorted byte_cmp x)) (sym (ap names_at
      (find_other first da (Dir (form_of (node first da)) (without byte_cmp na (names_in first da))) db (λ e. ne (sym e)))))
      (sorted_first db (form_of (node first db)) (names_in first db) (dir_at (node first db) (is_dir_first db ∙ is_b))))

  more_both : (q : ℕ) → names both q ≡ names mid q + (if n == q then 1 else 0)
  more_both = gains.names_after mid db n (form_of (node mid db)) (names_in mid db) nb order_mid at_b_mid sorted_mid absent_mid

  same_test : (names (with_name (without_name t da na) db nb n) old == 0 && opened s.handles old == 0) ≡ test
  same_test =
      let counts : names (with_name (without_name t da na) db nb n) old ≡ names first old = ap (λ u. names u old) same_tree
      ∙ (let less = less_mid old in let more = more_both old in omega arith) in
      ap (λ c. c == 0 && opened s.handles old == 0) counts

  commute : (b : Bool) → left_if b old both ≡ with_name (without_name (left_if b old first) da na) db nb n
  commute true = change_less mid order_mid (put byte_cmp nb n) db old apart_b
      ∙ ap (λ u. with_name u db nb n) (change_less first order_first (without byte_cmp na) da old apart_a)
  commute false = refl

  pub same_after : let_go (with_name (without_name t da na) db nb n) s.handles old ≡ with_name (without_name s1.tree da na) db nb n
  same_after = ap (λ b. left_if b old (with_name (without_name t da na) db nb n)) same_test ∙ ap (left_if test old) same_tree ∙ commute test

  fits1 : need (with_name (without_name s1.tree da na) db nb n) ≤ 47 * N
  fits1 = subst (λ u. need u ≤ 47 * N) same_after fits

  pub leaf_over : is_dir (node t n) ≡ false → Sound N (with_tree s (let_go (with_name (without_name t da na) db nb n) s.handles old))
  leaf_over plain = subst (λ u. Sound N (with_tree s u)) (sym same_after)
      (leaf_moved N s1 sound1 da db n na nb (dirs1 da apart_a ∙ is_a) found1 (dirs1 db apart_b ∙ is_b) absent1 good1 (λ ne. few1) fits1
      (dirs1 n other ∙ plain))

  pub dir_over : is_dir (node t n) ≡ true → is_dir (node t old) ≡ true → (Under (without_name s1.tree da na) n db → ⊥)
      → Sound N (with_tree s (let_go (with_name (without_name t da na) db nb n) s.handles old))
  dir_over dir old_dir away = subst (λ u. Sound N (with_tree s u)) (sym same_after)
      (dir_moved N s1 sound1 da db n na nb (dirs1 da apart_a ∙ is_a) found1 (dirs1 db apart_b ∙ is_b) absent1 good1 (λ ne. few1) fits1
      (dirs1 n other ∙ dir) (λ ne. room light) away)
    where
      room : IsLight (node t old) → links s1.tree db < 1000
      room (inl plain) = cc
      room (inr empty) =
          let less = shrinks.links_lost t db old form_b names_b nb sound.in_order at_b limits_b.0 taken old_dir in
          let most = sound.few_links db (λ none. let plain : is_dir (node t db) ≡ false = ap is_dir none in cc) in
          let after = empty_links N s sound db old nb is_b taken empty.0 empty.1 db apart_b in
          omega arith

  -- no name comes
  pub entries_were : (q : ℕ) (x : List ℕ) (k : ℕ) → entry (without_name s1.tree da na) q x ≡ Some k → entry t q x ≡ Some k
  entries_were q x k e =
      let dir1 = dirs1 da apart_a ∙ is_a in
      let one = out.was_entry N s1 sound1 da n (form_of (node s1.tree da)) (names_in s1.tree da) na
      (dir_at (node s1.tree da) dir1) found1 q x k e in
      out.was_entry N s sound db old form_b names_b nb at_b taken q x k (left_entry test old q first x k one)
