-- The pieces of a text, from its slashes.
use Rattle.std.proofs.Common.{◌≡◌, refl, sym, ap, subst, ◌∙◌, ℕ, suc, ◌+◌, ◌-◌, ◌<◌, ◌≤◌, ◌⊎◌, true, false, not, List, [], ◌∷◌}
use Rattle.std.proofs.Common.{length, take, drop, eqb, arith, inl, inr}
use Rattle.std.specs.Prelude.{filter, nat_eq, nat_lt}
use Rattle.std.specs.List.{prefix_len}
use Rattle.std.proofs.lemmas.Bool.Decides.{nat_tests, eqb_tells}
use Rattle.std.proofs.lemmas.List.{length-drop, take_all, drop-drop, drop_all}
use lib.Pointwise.{pointwise}
use Rattle.lfs_model.specs.PathText.{parts, before_parts, comps, slash, from_root}
use Rattle.lfs_model.specs.Tree.{same_name}
use Rattle.lfs_model.specs.Walk.{more}
use Rattle.lfs_path.specs.Pieces.{is_slash, IsNextPiece}

-- the parts with any byte in them
abbrev pub pieces_of : List (List ℕ) → List (List ℕ)
pieces_of ps = filter (λ p. nat_lt 0 (length p)) ps

some_true : (n : ℕ) → nat_lt 0 (suc n) ≡ true
some_true n = grind (arith, nat_tests)

-- a slash in front adds no piece
slash_front : (q : List ℕ) → comps (47 ∷ q) ≡ comps q
slash_front q = by (parts q)
  where
    by : (ps : List (List ℕ)) → pieces_of (before_parts 47 ps) ≡ pieces_of ps
    by [] = refl
    by (p ∷ ps) = refl

pub skipped : (q : List ℕ) → comps (drop (prefix_len is_slash q) q) ≡ comps q
skipped [] = refl
skipped (c ∷ q) = elim (eqb_tells c 47) as (λ _. comps (drop (prefix_len is_slash (c ∷ q)) (c ∷ q)) ≡ comps (c ∷ q)) [
  | inl same ↦
      let one : prefix_len is_slash (c ∷ q) ≡ suc (prefix_len is_slash q) = rw same.0 (omega arith) in
      rw one (cc (skipped q, slash_front q))
  | inr apart ↦ rw apart.0 refl
]

-- what is left then begins with no slash
pub skips_all : (q : List ℕ) → prefix_len is_slash (drop (prefix_len is_slash q) q) ≡ 0
skips_all [] = refl
skips_all (c ∷ q) = elim (eqb_tells c 47) as (λ _. prefix_len is_slash (drop (prefix_len is_slash (c ∷ q)) (c ∷ q)) ≡ 0) [
  | inl same ↦
      let one : prefix_len is_slash (c ∷ q) ≡ suc (prefix_len is_slash q) = rw same.0 (omega arith) in
      rw one (skips_all q)
  | inr apart ↦ let none : prefix_len is_slash (c ∷ q) ≡ 0 = rw apart.0 refl in rw none none
]

-- the parts after the first, of the text behind it
abbrev pub parts_behind : List ℕ → List (List ℕ)
parts_behind [] = []
parts_behind (c ∷ q) = parts q

abbrev pub piece_len : List ℕ → ℕ
piece_len q = prefix_len (λ c. not (is_slash c)) q

first_part : (q : List ℕ) → parts q ≡ take (piece_len q) q ∷ parts_behind (drop (piece_len q) q)
first_part [] = refl
first_part (c ∷ q) =
    elim (eqb_tells c 47) as (λ _. parts (c ∷ q) ≡ take (piece_len (c ∷ q)) (c ∷ q) ∷ parts_behind (drop (piece_len (c ∷ q)) (c ∷ q))) [
      | inl same ↦ rw (same.0, first_part q, same.0) refl
      | inr apart ↦
          let one : piece_len (c ∷ q) ≡ suc (piece_len q) = rw apart.0 (omega arith) in
          rw (one, first_part q, apart.0) refl
    ]

-- what stands behind the first part is nothing, or begins with a slash
abbrev pub Ends : List ℕ → Type 0
Ends x = from_root x ≡ nat_lt 0 (length x)

ends_there : (q : List ℕ) → Ends (drop (piece_len q) q)
ends_there [] = refl
ends_there (c ∷ q) = elim (eqb_tells c 47) as (λ _. Ends (drop (piece_len (c ∷ q)) (c ∷ q))) [
  | inl same ↦ rw (same.0, same.0) (sym (some_true (length q)))
  | inr apart ↦
      let one : piece_len (c ∷ q) ≡ suc (piece_len q) = rw apart.0 (omega arith) in
      rw one (ends_there q)
]

behind : (x : List ℕ) → Ends x → pieces_of (parts_behind x) ≡ comps x
behind [] ends = refl
behind (c ∷ y) ends =
    let same : c ≡ 47 = grind (arith, nat_tests) in
    cc (slash_front y)

comps_first : (c : ℕ) (q : List ℕ) → eqb c 47 ≡ false
    → comps (c ∷ q) ≡ take (piece_len (c ∷ q)) (c ∷ q) ∷ comps (drop (piece_len (c ∷ q)) (c ∷ q))
comps_first c q apart =
    let one : piece_len (c ∷ q) ≡ suc (piece_len q) = rw apart (omega arith) in
    let long : nat_lt 0 (length (take (suc (piece_len q)) (c ∷ q))) ≡ true = some_true (length (take (piece_len q) q)) in
    ap pieces_of (first_part (c ∷ q)) ∙ rw (one, long) (ap (λ (ps : List (List ℕ)). (c ∷ take (piece_len q) q) ∷ ps)
    (rw one at (behind (drop (piece_len (c ∷ q)) (c ∷ q)) (ends_there (c ∷ q)))))

-- no piece: all bytes are slashes
slashes_end : (y : List ℕ) → comps y ≡ [] → slash (47 ∷ y) ≡ true
slashes_end [] none = refl
slashes_end (d ∷ z) none = elim (eqb_tells d 47) as (λ _. slash (47 ∷ d ∷ z) ≡ true) [
  | inl same ↦
      cc (slashes_end z (sym (slash_front z) ∙ ap (λ (b : ℕ). comps (b ∷ z)) (sym same.1) ∙ none))
  | inr apart ↦ absurd (let some = comps_first d z apart.0 in cc)
]

more_behind : (x : List ℕ) → Ends x → more (comps x) (slash x) ≡ nat_lt 0 (length x)
more_behind [] ends = refl
more_behind (c ∷ y) ends =
    let same : c ≡ 47 = grind (arith, nat_tests) in
    subst (λ (b : ℕ). more (comps (b ∷ y)) (slash (b ∷ y)) ≡ true) (sym same) (rw (slash_front y) (by (comps y) refl))
    ∙ sym (some_true (length y))
  where
    by : (ps : List (List ℕ)) → comps y ≡ ps → more ps (slash (47 ∷ y)) ≡ true
    by [] is = slashes_end y is
    by (p ∷ ps) is = refl

slash_behind : (q : List ℕ) → slash q ≡ slash (drop (piece_len q) q)
slash_behind [] = refl
slash_behind (c ∷ []) = elim (eqb_tells c 47) as (λ _. slash (c ∷ []) ≡ slash (drop (piece_len (c ∷ [])) (c ∷ []))) [
  | inl same ↦ rw (same.0, same.0) refl
  | inr apart ↦ rw apart.0 refl
]
slash_behind (c ∷ d ∷ r) = elim (eqb_tells c 47) as (λ _. slash (d ∷ r) ≡ slash (drop (piece_len (c ∷ d ∷ r)) (c ∷ d ∷ r))) [
  | inl same ↦ rw same.0 refl
  | inr apart ↦
      let one : piece_len (c ∷ d ∷ r) ≡ suc (piece_len (d ∷ r)) = rw apart.0 (omega arith) in
      rw one (slash_behind (d ∷ r))
]

slash_skipped : (q : List ℕ) → 0 < length (drop (prefix_len is_slash q) q) → slash q ≡ slash (drop (prefix_len is_slash q) q)
slash_skipped [] some = refl
slash_skipped (c ∷ q) some = elim (eqb_tells c 47) as (λ _. slash (c ∷ q) ≡ slash (drop (prefix_len is_slash (c ∷ q)) (c ∷ q))) [
  | inl same ↦
      let one : prefix_len is_slash (c ∷ q) ≡ suc (prefix_len is_slash q) = rw same.0 (omega arith) in
      let left : 0 < length (drop (prefix_len is_slash q) q) = rw one at some in
      rw one (longer q left ∙ slash_skipped q left)
  | inr apart ↦ rw apart.0 refl
]
  where
    longer : (q : List ℕ) → 0 < length (drop (prefix_len is_slash q) q) → slash (c ∷ q) ≡ slash q
    longer [] left = absurd (omega arith)
    longer (d ∷ r) left = refl

-- what is left of a text behind some of its bytes is as many bytes from its end
pub suffix_back : (k j : ℕ) (path : List ℕ) {r : List ℕ} → r ≡ drop j (drop k path) → r ≡ drop (length path - length r) path
suffix_back k j path {r} is = elim (cases_le (k + j) (length path)) as (λ _. r ≡ drop (length path - length r) path) [
  | inl inside ↦ whole ∙ ap (λ (n : ℕ). drop n path) (omega (arith, long))
  | inr past ↦
      whole ∙ drop_all (k + j) path (omega arith) ∙ sym (drop_all (length path - length r) path (omega (arith, long)))
]
  where
    whole : r ≡ drop (k + j) path
    whole = is ∙ drop-drop j k path

    long : length r ≡ length path - (k + j)
    long = ap length whole ∙ length-drop (k + j) path

    cases_le : (a b : ℕ) → (a ≤ b) ⊎ (b ≤ a)
    cases_le a b = grind arith

module _ (path q piece rest : List ℕ) (k : ℕ) (at : k ≡ prefix_len is_slash path) (is : q ≡ take (length path - k) (drop k path)) where
  whole : q ≡ drop (prefix_len is_slash path) path
  whole =
      let long = length-drop k path in
      is ∙ take_all (length path - k) (drop k path) (omega arith) ∙ ap (λ (n : ℕ). drop n path) at

  pub no_piece : length q ≡ 0 → comps path ≡ []
  no_piece none = cc (skipped path, whole, by q none)
    where
      by : (x : List ℕ) → length x ≡ 0 → comps x ≡ []
      by [] none = refl
      by (c ∷ x) none = absurd (omega arith)

  pub next_is : 0 < length q → piece ≡ take (piece_len q) q → rest ≡ drop (piece_len q) q → IsNextPiece path piece rest
  next_is some front back = by q some whole front back
    where
      by : (x : List ℕ) → 0 < length x → x ≡ drop (prefix_len is_slash path) path → piece ≡ take (piece_len x) x
          → rest ≡ drop (piece_len x) x → IsNextPiece path piece rest
      by [] some all front back = absurd (omega arith)
      by (c ∷ x) some all front back =
          let none : prefix_len is_slash (c ∷ x) ≡ 0 = cc (skips_all path) in
          let apart : eqb c 47 ≡ false = elim (eqb_tells c 47) as (λ _. eqb c 47 ≡ false) [
            | inl same ↦
                absurd (let one : prefix_len is_slash (c ∷ x) ≡ suc (prefix_len is_slash x) = rw same.0 (omega arith) in omega arith)
            | inr apart ↦ apart.0
          ] in
          let one : piece_len (c ∷ x) ≡ suc (piece_len x) = rw apart (omega arith) in
          let long : length (c ∷ x) ≡ length path - prefix_len is_slash path = cc (length-drop (prefix_len is_slash path) path) in
          let shorter : length rest < length (c ∷ x) = let cut = ap length back ∙ length-drop (piece_len (c ∷ x)) (c ∷ x) in omega arith in
          let left : 0 < length (drop (prefix_len is_slash path) path) = rw (← all) some in
          record {
            pieces = cc (skipped path, comps_first c x apart);
            slash_end = cc (slash_skipped path left, slash_behind (c ∷ x));
            goes_on = rw back (more_behind (drop (piece_len (c ∷ x)) (c ∷ x)) (ends_there (c ∷ x)));
            shorter = omega arith;
            behind = suffix_back (prefix_len is_slash path) (piece_len (c ∷ x)) path (cc);
            begins = rw back (ends_there (c ∷ x));
          }

-- `==` on two pieces
pub same_is : (x y : List ℕ) → pointwise nat_eq x y ≡ same_name x y
same_is [] [] = refl
same_is [] (b ∷ y) = refl
same_is (a ∷ x) [] = refl
same_is (a ∷ x) (b ∷ y) = cc (same_is x y)
