-- A walk with a slash end that follows ends at a directory.
use Rattle.std.proofs.Common.{◌≡◌, refl, ap, ◌∙◌, ℕ, Bool, true, false, ◌||◌, List, [], ◌∷◌, Option, Some, None, inl, inr, eqb, ◌⊎◌}
use Rattle.std.specs.Prelude.{T, unwrap_or, option_map, if◌then◌else◌, ◌==◌, find as first_that}
use Rattle.std.specs.List.{list_any}
use Rattle.std.specs.Ordering.{nat_cmp}
use Rattle.std.proofs.lemmas.Cmp.{nat_cmp_total}
use Rattle.std.specs.FinMap.{is_sorted}
use Rattle.lfs_model.specs.Tree.{Tree, Node, File, Dir, Link, node, names_of, is_dir, up}
use Rattle.lfs_model.specs.PathText.{slash, from_root}
use Rattle.lfs_model.specs.Walk.{Walk, no_piece, stays, goes_up, too_long, not_there, directory, file, not_dir, link, loops, followed, End}
use Rattle.lfs_model.specs.Walk.{At, Refused, more, start, slash_with}
use Rattle.lfs_model.specs.Sound.{IsFile}
use Rattle.lfs_model.proofs.Sums.{first_found}

has_names : (x : Node) (n : ℕ) → list_any (λ e. e.1 == n) (names_of x) ≡ true → is_dir (Some x) ≡ true
has_names (File b) n e = cc
has_names (Dir form m) n e = refl
has_names (Link text) n e = cc

module _ (t : Tree) (order : T (is_sorted nat_cmp t)) (root : is_dir (node t 1) ≡ true) where
  up_by : (n : ℕ) (o : Option (ℕ × Node)) → first_that (λ e. list_any (λ x. x.1 == n) (names_of e.1)) t ≡ o
      → is_dir (node t (unwrap_or (option_map (λ e. e.0) o) 1)) ≡ true
  up_by n None e = root
  up_by n (Some x) e =
      let found = first_found nat_cmp_total (λ x. 0) (λ e. list_any (λ x. x.1 == n) (names_of e.1)) t x order e in
      ap is_dir found.1 ∙ has_names x.1 n found.0

  pub up_dir : (n : ℕ) → is_dir (node t (up t n)) ≡ true
  up_dir n = elim (eqb n 1) as (λ b. is_dir (node t
      (if b then 1 else unwrap_or (option_map (λ e. e.0) (first_that (λ e. list_any (λ x. x.1 == n) (names_of e.1)) t)) 1)) ≡ true) [
        | true ↦ root
        | false ↦ up_by n _ refl
      ]

  more_true : (ps : List (List ℕ)) (s : Bool) → s ≡ true → more ps s ≡ true
  more_true [] s e = e
  more_true (p ∷ ps) s e = refl

  slash_true : (text : List ℕ) (ps : List (List ℕ)) (s : Bool) → s ≡ true → slash_with text ps s ≡ true
  slash_true text [] s e = elim (slash text) as (λ b. (b || s) ≡ true) [ true ↦ refl | false ↦ e ]
  slash_true text (p ∷ ps) s e = e

  start_dir : (text : List ℕ) (d : ℕ) → is_dir (node t d) ≡ true → is_dir (node t (start text d)) ≡ true
  start_dir text d h = elim (from_root text) as (λ b. is_dir (node t (if b then 1 else d)) ≡ true) [ true ↦ root | false ↦ h ]

  abbrev pub IsDirEnd : End → Type 0
  IsDirEnd (At x) = is_dir (node t x) ≡ true
  IsDirEnd (Refused r) = Unit {0}

  pub ends_in_dir : {d : ℕ} {ps : List (List ℕ)} {s : Bool} {k : ℕ} {e : End} → Walk t true d ps s k e → s ≡ true → is_dir (node t d) ≡ true
      → IsDirEnd e
  ends_in_dir no_piece sl h = h
  ends_in_dir (stays is w) sl h = ends_in_dir w sl h
  ends_in_dir (goes_up {d = d} is w) sl h = ends_in_dir w sl (up_dir d)
  ends_in_dir (too_long long) sl h = tt
  ends_in_dir (not_there is none) sl h = tt
  ends_in_dir (directory g w) sl h = ends_in_dir w sl (ap is_dir g.is_node)
  ends_in_dir (file {ps = ps} {s = s} g last) sl h = let a = more_true ps s sl in cc
  ends_in_dir (not_dir g last) sl h = tt
  ends_in_dir (link {ps = ps} {s = s} g last) sl h = let a : (more ps s || true) ≡ true = rw (more_true ps s sl) refl in cc
  ends_in_dir (loops g last full) sl h = tt
  ends_in_dir (followed {d = d} {text = text} {ps = ps} {s = s} g last room w) sl h =
      ends_in_dir w (slash_true text ps s sl) (start_dir text d h)

  -- a walk that follows ends at a directory or a file
  abbrev pub IsNodeEnd : End → Type 0
  IsNodeEnd (At x) = (is_dir (node t x) ≡ true) ⊎ IsFile (node t x)
  IsNodeEnd (Refused r) = Unit {0}

  pub ends_at_node : {d : ℕ} {ps : List (List ℕ)} {s : Bool} {k : ℕ} {e : End} → Walk t true d ps s k e → is_dir (node t d) ≡ true
      → IsNodeEnd e
  ends_at_node no_piece h = inl h
  ends_at_node (stays is w) h = ends_at_node w h
  ends_at_node (goes_up {d = d} is w) h = ends_at_node w (up_dir d)
  ends_at_node (too_long long) h = tt
  ends_at_node (not_there is none) h = tt
  ends_at_node (directory g w) h = ends_at_node w (ap is_dir g.is_node)
  ends_at_node (file {b = b} g last) h = inr (b, g.is_node)
  ends_at_node (not_dir g last) h = tt
  ends_at_node (link {ps = ps} {s = s} g last) h = absurd (never (more ps s) last)
    where
      never : (b : Bool) → (b || true) ≡ false → ⊥
      never true e = cc
      never false e = cc
  ends_at_node (loops g last full) h = tt
  ends_at_node (followed {d = d} {text = text} g last room w) h = ends_at_node w (start_dir text d h)
