-- The inodes that a walk keeps.
use Rattle.std.proofs.Common.{◌≡◌, ◌<◌, ◌≤◌, ◌+◌, ◌++◌, ◌∷◌, [], ⊎_elim, ℕ, zero, suc, nat_lt, List, length, get_or, sym, ◌∙◌, ap, subst}
use Rattle.std.proofs.Common.{arith, below_more}
use Rattle.std.proofs.lemmas.Bool.{cases_eq, lt-ltb}
use Rattle.std.proofs.lemmas.List.{get_or_append_left, get_or_push, length_push}
use Rattle.lfs_model.specs.Content.{Content, block}
use Rattle.lfs_model.specs.Objects.{one_if}
use Rattle.lfs_verify.specs.Kept.{there_below, KeepsAt, KeepsBelow, KeepsInodes}
use Rattle.lfs_verify.proofs.Occurrences.{above_start, above_step}

-- ---- how many files are there
pub there_start : (map : List ℕ) → there_below map 0 ≡ 0
there_start map = above_start map 0

pub there_next : (map : List ℕ) (n : ℕ) → there_below map (n + 1) ≡ there_below map n + one_if (nat_lt 0 (get_or map n 0))
there_next map n = let next : n + 1 ≡ suc n = omega arith in ap (there_below map) next ∙ above_step map 0 n

one_there : (at : ℕ) → 0 < at → one_if (nat_lt 0 at) ≡ 1
one_there at some = ap one_if (lt-ltb 0 at some)

none_there : (at : ℕ) → at ≡ 0 → one_if (nat_lt 0 at) ≡ 0
none_there at none = ap (λ (x : ℕ). one_if (nat_lt 0 x)) none

there_more : (map : List ℕ) (n m : ℕ) → n ≤ m → there_below map n ≤ there_below map m
there_more map n zero le = let e : n ≡ 0 = omega (arith, le) in omega (arith, ap (there_below map) e)
there_more map n (suc m) le = ⊎_elim
    (λ (here : n ≡ suc m). omega (arith, ap (there_below map) here))
    (λ (before : n ≡ suc m → ⊥). let rest = there_more map n m (omega (arith, le, before)) in omega (arith, rest, above_step map 0 m))
    (cases_eq n (suc m))

-- a file that is there counts below each greater number
pub there_past : (map : List ℕ) (n m : ℕ) → n < m → 0 < get_or map n 0 → there_below map n < there_below map m
there_past map n m lt some =
    let rest = there_more map (n + 1) m (omega (arith, lt)) in
    omega (arith, there_next map n, one_there (get_or map n 0) some, rest)

-- ---- one file more
module _ (map : List ℕ) (n : ℕ) (xs ys : List (List ℕ)) (count : length xs ≡ there_below map n) (inode : List ℕ)
    (more : 0 < get_or map n 0 → ys ≡ xs ++ inode ∷ []) (same : get_or map n 0 ≡ 0 → ys ≡ xs) where
  pub count_next : length ys ≡ there_below map (n + 1)
  count_next = ⊎_elim
      (λ (none : get_or map n 0 ≡ 0). omega (arith, ap length (same none), there_next map n, none_there (get_or map n 0) none, count))
      (λ (some : get_or map n 0 ≡ 0 → ⊥).
      let l = ap length (more (omega arith)) ∙ length_push xs inode in let next = there_next map n in
      let one = one_there (get_or map n 0) (omega arith) in omega (arith, l, next, one, count))
      (cases_eq (get_or map n 0) 0)

  module _ (c : Content) (read : 0 < get_or map n 0 → block c (get_or map n 0) ≡ inode) (so_far : KeepsBelow c map xs n) where
    here : 0 < get_or map n 0 → (there_below map n < length ys) × (block c (get_or map n 0) ≡ get_or ys (there_below map n) [])
    here some = (
      omega (arith, ap length (more some) ∙ length_push xs inode, count),
      read some ∙ sym (ap (λ (zs : List (List ℕ)). get_or zs (there_below map n) []) (more some)
          ∙ get_or_push xs inode [] (there_below map n) count),
    )

    before : (i : ℕ) → i < n → KeepsAt c (get_or map i 0) ys (there_below map i)
    before i lt there = ⊎_elim
        (λ (none : get_or map n 0 ≡ 0). subst (λ (zs : List (List ℕ)). (there_below map i < length zs)
        × (block c (get_or map i 0) ≡ get_or zs (there_below map i) [])) (sym (same none)) (so_far i lt there))
        (λ (some : get_or map n 0 ≡ 0 → ⊥).
        let is = more (omega arith) in
        let old = so_far i lt there in (
          omega (arith, ap length is ∙ length_push xs inode, old.0),
          old.1 ∙ sym (ap (λ (zs : List (List ℕ)). get_or zs (there_below map i) []) is
              ∙ get_or_append_left xs (inode ∷ []) [] (there_below map i) old.0),
        ))
        (cases_eq (get_or map n 0) 0)

    pub keeps_next : KeepsBelow c map ys (n + 1)
    keeps_next = below_more _ _ before here

-- the inode of a file, where so many come before it
pub keeps_here : (c : Content) (map : List ℕ) (inodes : List (List ℕ)) → KeepsInodes c map inodes → (n : ℕ) → n < 4096 → {p : ℕ}
    → p ≡ there_below map n → KeepsAt c (get_or map n 0) inodes p
keeps_here c map inodes keeps n lt is = subst (KeepsAt c (get_or map n 0) inodes) (sym is) (keeps n lt)
