-- The text that is left after a link was followed: the link's text, and behind it what was left, which is empty or begins with a slash.
use Rattle.std.proofs.Common.{◌≡◌, refl, sym, ap, ◌∙◌, ℕ, suc, Bool, true, false, ◌||◌, List, [], ◌∷◌, ◌++◌, length, eqb, arith}
use Rattle.std.specs.Prelude.{filter, nat_lt, if◌then◌else◌}
use Rattle.std.proofs.lemmas.Bool.Decides.{nat_tests}
use Rattle.std.proofs.lemmas.List.Elements.{filter-append}
use Rattle.lfs_model.specs.PathText.{parts, before_parts, comps, slash}
use Rattle.lfs_model.specs.Walk.{more, slash_with}

-- what may be left behind a piece
abbrev pub IsRest : List ℕ → Type 0
IsRest [] = Unit {0}
IsRest (c ∷ q) = c ≡ 47

abbrev has_bytes : List ℕ → Bool
has_bytes p = nat_lt 0 (length p)

-- ---- the parts of both
some_parts : (c : ℕ) (ps : List (List ℕ)) → (p : List ℕ) × (rest : List (List ℕ)) × (before_parts c ps ≡ p ∷ rest)
some_parts c [] = elim (eqb c 47) as (λ b. (p : List ℕ) × (rest : List (List ℕ)) × ((if b then [] ∷ [] else (c ∷ []) ∷ []) ≡ p ∷ rest)) [
  | true ↦ ([], [], refl)
  | false ↦ (c ∷ [], [], refl)
]
some_parts c (p ∷ ps) =
    elim (eqb c 47) as (λ b. (x : List ℕ) × (rest : List (List ℕ)) × ((if b then [] ∷ p ∷ ps else (c ∷ p) ∷ ps) ≡ x ∷ rest)) [
      | true ↦ ([], p ∷ ps, refl)
      | false ↦ (c ∷ p, ps, refl)
    ]

first_part : (x : List ℕ) → (p : List ℕ) × (ps : List (List ℕ)) × (parts x ≡ p ∷ ps)
first_part [] = ([], [], refl)
first_part (c ∷ x) = some_parts c (parts x)

slash_first : (ps : List (List ℕ)) (p : List ℕ) (rest : List (List ℕ)) → ps ≡ p ∷ rest → before_parts 47 ps ≡ [] ∷ ps
slash_first ps p rest is = ap (before_parts 47) is ∙ sym (ap (λ (qs : List (List ℕ)). [] ∷ qs) is)

before_both : (c : ℕ) (ps qs : List (List ℕ)) (p : List ℕ) (rest : List (List ℕ)) → ps ≡ p ∷ rest
    → before_parts c (ps ++ qs) ≡ before_parts c ps ++ qs
before_both c ps qs p rest is = ap (λ (x : List (List ℕ)). before_parts c (x ++ qs)) is ∙ by (eqb c 47)
    ∙ sym (ap (λ (x : List (List ℕ)). before_parts c x ++ qs) is)
  where
    by : (b : Bool) → (if b then [] ∷ p ∷ (rest ++ qs) else (c ∷ p) ∷ (rest ++ qs)) ≡ (if b then [] ∷ p ∷ rest else (c ∷ p) ∷ rest) ++ qs
    by true = refl
    by false = refl

parts_joined : (x q : List ℕ) → parts (x ++ 47 ∷ q) ≡ parts x ++ parts q
parts_joined [] q = let f = first_part q in slash_first (parts q) f.0 f.1 f.2
parts_joined (c ∷ x) q = let f = first_part x in ap (before_parts c) (parts_joined x q) ∙ before_both c (parts x) (parts q) f.0 f.1 f.2

slash_front : (q : List ℕ) → comps (47 ∷ q) ≡ comps q
slash_front q = let f = first_part q in ap (filter has_bytes) (slash_first (parts q) f.0 f.1 f.2)

nothing_behind : (x : List ℕ) → x ++ [] ≡ x
nothing_behind [] = refl
nothing_behind (c ∷ x) = ap (λ (y : List ℕ). c ∷ y) (nothing_behind x)

no_more : {A : Type 0} (xs : List A) → xs ≡ xs ++ []
no_more [] = refl
no_more (x ∷ xs) = ap (λ ys. x ∷ ys) (no_more xs)

some_true : (n : ℕ) → nat_lt 0 (suc n) ≡ true
some_true n = grind (arith, nat_tests)

-- the pieces of the link's text come before those that were left
pub pieces_joined : (x rest : List ℕ) → IsRest rest → comps (x ++ rest) ≡ comps x ++ comps rest
pieces_joined x [] is = ap comps (nothing_behind x) ∙ no_more (comps x)
pieces_joined x (c ∷ q) is =
    ap (λ (b : ℕ). comps (x ++ b ∷ q)) is ∙ ap (filter has_bytes) (parts_joined x q) ∙ filter-append has_bytes (parts x) (parts q)
    ∙ ap (λ (ps : List (List ℕ)). comps x ++ ps) (sym (slash_front q)) ∙ ap (λ (b : ℕ). comps x ++ comps (b ∷ q)) (sym is)

-- ---- the slash end of both
slash_last : (x : List ℕ) (c : ℕ) (q : List ℕ) → slash (x ++ c ∷ q) ≡ slash (c ∷ q)
slash_last [] c q = refl
slash_last (b ∷ []) c q = refl
slash_last (b ∷ d ∷ x) c q = slash_last (d ∷ x) c q

ends_by : (x : List ℕ) (ps : List (List ℕ)) (s : Bool) → more ps s ≡ true → slash_with x ps s ≡ s
ends_by x [] s is = by (slash x) s is
  where
    by : (a b : Bool) → b ≡ true → (a || b) ≡ b
    by true b is = sym is
    by false b is = refl
ends_by x (p ∷ ps) s is = refl

or_false : (b : Bool) → (b || false) ≡ b
or_false true = refl
or_false false = refl

-- the slash end is that of what was left, and the link's where nothing was
pub slash_joined : (x rest : List ℕ) → IsRest rest → more (comps rest) (slash rest) ≡ nat_lt 0 (length rest)
    → slash_with x (comps rest) (slash rest) ≡ slash (x ++ rest)
slash_joined x [] is goes_on = or_false (slash x) ∙ ap slash (sym (nothing_behind x))
slash_joined x (c ∷ q) is goes_on = ends_by x (comps (c ∷ q)) (slash (c ∷ q)) (goes_on ∙ some_true (length q)) ∙ sym (slash_last x c q)
