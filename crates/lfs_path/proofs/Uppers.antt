-- The one directory that names a directory is the one above it.
use Rattle.std.proofs.Common.{◌≡◌, ◌≢◌, refl, sym, ℕ, ◌+◌, ◌≤◌, Bool, true, false, ◌||◌, List, [], ◌∷◌, Option, Some, None}
use Rattle.std.proofs.Common.{arith, cond, eqb}
use Rattle.std.specs.Prelude.{T, count_by, unwrap_or, option_map, if◌then◌else◌, ◌==◌, find as first_that}
use Rattle.std.specs.List.{list_any}
use Rattle.std.proofs.lemmas.Bool.{eq-eqb}
use Rattle.std.proofs.lemmas.Bool.Decides.{nat_tests}
use Rattle.std.proofs.lemmas.List.Sums.{sum_by-cons}
use Rattle.std.specs.Ordering.{nat_cmp, is_eq}
use Rattle.std.proofs.lemmas.Cmp.{nat_cmp_total}
use Rattle.std.specs.FinMap.{find, is_sorted}
use Rattle.lfs_model.specs.Tree.{File, Names, Node, Tree, byte_cmp, entry, names, names_of, node, up, without}
use Rattle.lfs_model.proofs.Growing.{gives, same_or_not}
use Rattle.lfs_model.proofs.Sums.{find_without, first_found, total_without, weight, weight-le-total}
use Rattle.lfs_model.proofs.Trees.{cmp_other}

any_gives : (n : ℕ) (m : Names) → list_any (λ x. x.1 == n) m ≡ true → 1 ≤ count_by (λ x. x.1 == n) m
any_gives n [] h = cc
any_gives n (e ∷ es) h =
    elim (e.1 == n) as (λ b. (b || list_any (λ x. x.1 == n) es) ≡ true
    → (if b then 1 else 0) + count_by (λ x. x.1 == n) es ≡ count_by (λ x. x.1 == n) (e ∷ es) → 1 ≤ count_by (λ x. x.1 == n) (e ∷ es)) [
      | true ↦ λ h sum. omega arith
      | false ↦ λ h sum. let rest = any_gives n es h in omega arith
    ] h (sym (sum_by-cons (λ (x : List ℕ × ℕ). cond (x.1 == n) 1 0) e es))

gives_any : (n : ℕ) (x : List ℕ) (m : Names) → find byte_cmp x m ≡ Some n → list_any (λ e. e.1 == n) m ≡ true
gives_any n x [] h = cc
gives_any n x (e ∷ es) h = elim (is_eq (byte_cmp x e.0))
    as (λ b. cond b (Some e.1) (find byte_cmp x es) ≡ Some n → (e.1 == n || list_any (λ e. e.1 == n) es) ≡ true) [
      | true ↦ λ h. let one : (e.1 == n) ≡ true = eq-eqb e.1 n cc in rw one refl
      | false ↦ λ h. elim (e.1 == n) as (λ b. (b || list_any (λ e. e.1 == n) es) ≡ true) [ true ↦ refl | false ↦ gives_any n x es h ]
    ] h

none_gives : (p : Node → Bool) (k : ℕ) (x : Node) (t : Tree) → first_that (λ e. p e.1) t ≡ None → find nat_cmp k t ≡ Some x → p x ≡ false
none_gives p k x [] none h = cc
none_gives p k x (e ∷ es) none h = elim (p e.1) as (λ b. p e.1 ≡ b → cond b (Some e) (first_that (λ e. p e.1) es) ≡ None → p x ≡ false) [
  | true ↦ λ _ bad. cc
  | false ↦ λ first none. elim (is_eq (nat_cmp k e.0)) as (λ b. cond b (Some e.1) (find nat_cmp k es) ≡ Some x → p x ≡ false) [
    | true ↦ λ h. let same : e.1 ≡ x = cc in rw (← same) first
    | false ↦ λ h. none_gives p k x es none h
  ] h
] refl none

module _ (t : Tree) (in_order : T (is_sorted nat_cmp t)) where
  abbrev that_gives : ℕ → ℕ × Node → Bool
  that_gives n e = list_any (λ x. x.1 == n) (names_of e.1)

  pub up_is : {d : ℕ} (n : ℕ) (x : List ℕ) → entry t d x ≡ Some n → n ≢ 1 → names t n ≡ 1 → up t n ≡ d
  up_is {d} n x e ne one = at_node (node t d) refl e
    where
      inner : eqb n 1 ≡ false
      inner = grind (arith, nat_tests)

      at_node : (o : Option Node) → node t d ≡ o → find byte_cmp x (names_of (unwrap_or o (File []))) ≡ Some n → up t n ≡ d
      at_node None is e = cc
      at_node (Some y) is e = rw inner (by (first_that (that_gives n) t) refl)
        where
          given : list_any (λ e. e.1 == n) (names_of y) ≡ true
          given = gives_any n x (names_of y) e

          by : (o : Option (ℕ × Node)) → first_that (that_gives n) t ≡ o → unwrap_or (option_map (λ e. e.0) o) 1 ≡ d
          by None none = let never : list_any (λ e. e.1 == n) (names_of y) ≡ false =
              none_gives (λ y. list_any (λ x. x.1 == n) (names_of y)) d y t none is in let yes_is = given in cc
          by (Some f) found = same_or_not f.0 d (λ same. same) (λ apart. absurd (
              let first = first_found nat_cmp_total (λ x. 0) (that_gives n) t f in_order found in
              let here : weight nat_cmp_total (gives n) (node t d) ≡ gives n y = cc in
              let two = any_gives n (names_of y) given in
              let still : find nat_cmp f.0 (without nat_cmp d t) ≡ Some f.1 = cc (find_without nat_cmp_total d f.0 t, cmp_other f.0 d apart)
              in
              let more = weight-le-total nat_cmp_total (gives n) f.0 f.1 (without nat_cmp d t) still in
              let three = any_gives n (names_of f.1) first.0 in
              omega (arith, total_without nat_cmp_total (gives n) d t in_order)))
