-- What a mount finds after a stop is sound: the nodes without a name are gone, and no handle is open.
use Rattle.std.proofs.Common.{◌≡◌, ◌≢◌, refl, sym, ap, ◌∙◌, ℕ, ◌≤◌, Bool, true, false, ◌||◌, List, [], Option, Some, None, arith, cond}
use Rattle.std.proofs.Common.{inl, inr, eqb, ◌⊎◌}
use Rattle.std.specs.Prelude.{unwrap_or, ◌==◌, not, filter}
use Rattle.std.proofs.lemmas.Bool.{eqb-true, eq-eqb}
use Rattle.std.proofs.lemmas.Bool.Decides.{nat_tests}
use Rattle.std.specs.Ordering.{nat_cmp}
use Rattle.std.specs.Cmp.{ranked}
use Rattle.std.specs.declared.cmp.Ordering.TheVariants.{Equal}
use Rattle.std.proofs.lemmas.Cmp.{nat_cmp_total}
use Rattle.std.specs.FinMap.Entries.{find-where_key, is_sorted-where_key}
use Rattle.lfs_model.specs.Tree.{Tree, Node, File, State, node, names_of, names_in, is_dir, entry, names, links, links_at}
use Rattle.lfs_model.specs.Tree.{drop_nameless}
use Rattle.lfs_model.specs.Need.{need, data_of, meta_of}
use Rattle.lfs_model.specs.Sound.{Sound, IsFile}
use Rattle.lfs_model.proofs.Sums.{total_filter, total_filter-le}
use Rattle.lfs_model.proofs.Alike.{gives, links_of_names, same_entries, same_reached}
use Rattle.lfs_model.proofs.Shrinking.{named_counts}

module _ (N : ℕ) (s : State) (sound : Sound N s) where
  abbrev pub t : Tree
  t = s.tree

  -- the numbers that stay
  abbrev pub stays : ℕ → Bool
  stays n = n == 1 || not (names t n == 0)

  abbrev pub t' : Tree
  t' = filter (λ e. stays e.0) t

  pub now : (q : ℕ) → node t' q ≡ cond (stays q) (node t q) None
  now q = find-where_key nat_cmp stays q (λ x e. ap stays (sym (ranked q x Equal (sym e)))) t

  kept : (q : ℕ) → stays q ≡ true → node t' q ≡ node t q
  kept q h = now q ∙ ap (λ b. cond b (node t q) None) h

  gone : (q : ℕ) → stays q ≡ false → node t' q ≡ None
  gone q h = now q ∙ ap (λ b. cond b (node t q) None) h

  either : (q : ℕ) {P : Type 0} → (stays q ≡ true → P) → (stays q ≡ false → P) → P
  either q {P} f g = elim (stays q) as (λ b. stays q ≡ b → P) [ true ↦ f | false ↦ g ] refl

  goes_is : (a b : Bool) → (a || not b) ≡ false → (a ≡ false) × (b ≡ true)
  goes_is true b e = cc
  goes_is false true e = (refl, refl)
  goes_is false false e = cc

  -- what goes is a file
  goes_file : (q : ℕ) → stays q ≡ false → (node t q ≡ None) ⊎ IsFile (node t q)
  goes_file q h =
      let both = goes_is (q == 1) (names t q == 0) h in
      let ne : q ≢ 1 = λ e. absurd (let one : eqb q 1 ≡ true = eq-eqb q 1 e in let no = both.0 in cc) in
      elim (node t q) as (λ o. node t q ≡ o → (o ≡ None) ⊎ IsFile o) [
        | None ↦ λ _. inl refl
        | Some x ↦ λ is. inr (let file = (sound.held q ne (λ none. cc) (eqb-true (names t q) 0 both.1)).file in (file.0, sym is ∙ file.1))
      ] refl

  -- a word that sees neither files nor gaps
  unseen : {A : Type 0} (f : Option Node → A) → ((b : List ℕ) → f None ≡ f (Some (File b))) → (q : ℕ) → f (node t' q) ≡ f (node t q)
  unseen f same q = either q
      (λ h. ap f (kept q h))
      (λ h. ap f (gone q h) ∙ elim (goes_file q h) as (λ _. f None ≡ f (node t q))
      [ inl none ↦ ap f (sym none) | inr file ↦ same file.0 ∙ ap f (sym file.1) ])

  dirs : (q : ℕ) → is_dir (node t' q) ≡ is_dir (node t q)
  dirs = unseen is_dir (λ b. refl)

  lists : (q : ℕ) → names_in t' q ≡ names_in t q
  lists = unseen (λ (o : Option Node). names_of (unwrap_or o (File []))) (λ b. refl)

  pub same_names : (q : ℕ) → names t' q ≡ names t q
  same_names q = total_filter nat_cmp_total (gives q) stays t sound.in_order (λ k x is h. elim (goes_file k h) as (λ _. gives q x ≡ 0) [
    | inl none ↦ let a = is in cc
    | inr file ↦ let same : x ≡ File file.0 = some_is (sym is ∙ file.1) in ap (gives q) same
  ])
    where
      some_is : {x y : Node} → Some x ≡ Some y → x ≡ y
      some_is e = cc

  pub there : (q : ℕ) → node t' q ≢ None → stays q ≡ true
  there q some = either q (λ h. h) (λ h. absurd (some (gone q h)))

  was_there : (q : ℕ) → node t' q ≢ None → node t q ≢ None
  was_there q some none = some (kept q (there q some) ∙ none)

  pub same_links : (q : ℕ) → stays q ≡ true → links t' q ≡ links t q
  same_links q h = ap (links_at t' q) (kept q h) ∙ links_of_names t t' dirs q (same_names q) (node t q)

  -- what has a name stays
  named_stays : (k : ℕ) → 1 ≤ names t k → stays k ≡ true
  named_stays k h = let some : eqb (names t k) 0 ≡ false = grind (arith, nat_tests) in by (k == 1) (names t k == 0) some
    where
      by : (a b : Bool) → b ≡ false → (a || not b) ≡ true
      by true b e = refl
      by false b e = ap not e

  less_need : need t' ≤ need t
  less_need = let a = total_filter-le nat_cmp_total data_of stays t in let b = total_filter-le nat_cmp_total meta_of stays t in
      omega (arith, a, b)

  nameless : (q : ℕ) → q ≢ 1 → stays q ≡ true → names t q ≢ 0
  nameless q ne h none = let no : eqb q 1 ≡ false = grind (arith, nat_tests) in
      let zero_is : eqb (names t q) 0 ≡ true = eq-eqb (names t q) 0 none in by (q == 1) (names t q == 0) no zero_is h
    where
      by : (a b : Bool) → a ≡ false → b ≡ true → (a || not b) ≡ true → ⊥
      by true b e f h = cc
      by false true e f h = cc
      by false false e f h = cc

  pub dropped_sound : Sound N (drop_nameless s)
  dropped_sound = record {
    in_order = is_sorted-where_key nat_cmp stays t sound.in_order;
    handles_in_order = tt;
    version = sound.version;
    forms = λ q x h. sound.forms q x (sym (kept q (there q (λ none. cc))) ∙ h);
    root = dirs 1 ∙ sound.root;
    numbers = λ q some. sound.numbers q (was_there q some);
    limits = λ q x h. sound.limits q x (sym (kept q (there q (λ none. cc))) ∙ h);
    few_links = λ q some. (let same = same_links q (there q some) in let few = sound.few_links q (was_there q some) in omega arith);
    named = λ q x k e none. (
        let one : entry t q x ≡ Some k = sym (same_entries t t' lists q x) ∙ e in
        sound.named q x k one (sym (kept k (named_stays k (named_counts t q x k one))) ∙ none));
    root_unnamed = same_names 1 ∙ sound.root_unnamed;
    one_name = λ q ne dir. same_names q ∙ sound.one_name q ne (sym (dirs q) ∙ dir);
    reached = λ q dir. same_reached t t' lists (sound.reached q (sym (dirs q) ∙ dir));
    held = λ q ne some none. absurd (nameless q ne (there q some) (sym (same_names q) ∙ none));
    handles = λ h q e. absurd (cc e);
    room = let less = less_need in let fits = sound.room in omega arith;
  }
