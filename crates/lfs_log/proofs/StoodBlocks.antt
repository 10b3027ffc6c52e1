-- Blocks that stand in some segments: they are no more than those that live there and those that hold them.
use Rattle.std.proofs.Common.{◌≡◌, ◌<◌, ◌≤◌, ◌⊎◌, ⊎_elim, ◌+◌, ◌==◌, ◌&&◌, not, cond, ℕ, suc, Bool, true, false, List, [], ◌∷◌, length}
use Rattle.std.proofs.Common.{refl, sym, ◌∙◌, ap, arith, inl, inr}
use Rattle.std.specs.Prelude.{sum_by}
use Rattle.std.proofs.lemmas.Bool.{cases_eq}
use Rattle.std.proofs.lemmas.List.Sums.{sum_by-cons}
use Rattle.lfs_model.specs.Content.{Content}
use Rattle.lfs_model.specs.Counting.{segment_of}
use Rattle.lfs_model.specs.Entry.{Entry}
use Rattle.lfs_model.specs.Laid.{IsLaid}
use Rattle.lfs_model.specs.Members.{IsIn, AreApart}
use Rattle.lfs_model.specs.Memory.{Memory, is_shown, is_held, settled_at, those, count_of, live_of, held_of}
use Rattle.lfs_model.specs.Stands.{LogMap}
use Rattle.lfs_model.proofs.Counting.{one_more_counted}
use Rattle.lfs_model.proofs.DetachedCounts.{counts_sum, nowhere, one_if}
use Rattle.lfs_model.proofs.Entries.{same_entry}

-- ---- a test that leaves one entry out
is_left : {A B : Type 0} → A ⊎ B → Bool
is_left (inl a) = true
is_left (inr b) = false

left_is : {A B : Type 0} (d : A ⊎ B) → (B → ⊥) → is_left d ≡ true
unfolding is_left
left_is (inl a) not_right = refl
left_is (inr b) not_right = absurd (not_right b)

right_is : {A B : Type 0} (d : A ⊎ B) → (A → ⊥) → is_left d ≡ false
unfolding is_left
right_is (inl a) not_left = absurd (not_left a)
right_is (inr b) not_left = refl

abbrev but : (Entry → Bool) → Entry → Entry → Bool
but p x y = p y && not (is_left (same_entry y x))

and_none : (b c : Bool) → c ≡ true → (b && not c) ≡ false
and_none b true is = no b
  where
    no : (b : Bool) → (b && false) ≡ false
    no true = refl
    no false = refl
and_none b false is = absurd (cc)

and_same : {b : Bool} (c : Bool) → c ≡ false → (b && not c) ≡ b
and_same true is = absurd (cc)
and_same {b} false is = yes b
  where
    yes : (b : Bool) → (b && true) ≡ b
    yes true = refl
    yes false = refl

but_own : (p : Entry → Bool) (x : Entry) → but p x x ≡ false
but_own p x = and_none _ _ (left_is _ (λ ne. ne refl))

but_other : (p : Entry → Bool) (x y : Entry) → (y ≡ x → ⊥) → but p x y ≡ p y
but_other p x y ne = and_same _ (right_is _ ne)

-- ---- counts over some segments
module _ {e : Content} (m : LogMap) {M : Memory} {opened_at : ℕ} (laid : IsLaid e m M opened_at) where
  one_less : (p : Entry → Bool) (x : Entry) → p x ≡ true → 2 ≤ M.at x → (vs : List ℕ)
      → (IsIn vs (segment_of (M.at x)) → sum_by (count_of (but p x) M) vs + 1 ≤ sum_by (count_of p M) vs)
      × (sum_by (count_of (but p x) M) vs ≤ sum_by (count_of p M) vs)
  one_less p x on above [] = (λ is. absurd is, omega arith)
  one_less p x on above (v ∷ vs) =
      let rest = one_less p x on above vs in
      let more = one_more_counted e m M opened_at x laid (but p x) p (but_own p x) on (λ y ne. sym (but_other p x y ne)) in
      let a = sum_by-cons (count_of (but p x) M) v vs in
      let b = sum_by-cons (count_of p M) v vs in
      let most = rest.1 in
      ⊎_elim
      (λ (here : v ≡ segment_of (M.at x)).
      let up : count_of p M v ≡ suc (count_of (but p x) M v) =
      rw here (more.0 above) in
      (λ is. omega (arith, a, b, up, most), omega (arith, a, b, up, most)))
      (λ (away : v ≡ segment_of (M.at x) → ⊥).
      let same = more.1 v (λ above e. away e) in (
        λ is. (let less = rest.0 (⊎_elim (λ (h : segment_of (M.at x) ≡ v). absurd (away (sym h)))
            (λ (later : IsIn vs (segment_of (M.at x))). later) is) in omega (arith, a, b, same, less)),
        omega (arith, a, b, same, most),
      ))
      (cases_eq v (segment_of (M.at x)))

  stood_counted : (xs : List Entry) → AreApart xs → (p : Entry → Bool) → ((x : Entry) → IsIn xs x → p x ≡ true) → (vs : List ℕ)
      → ((x : Entry) → IsIn xs x → (2 ≤ M.at x) × IsIn vs (segment_of (M.at x))) → length xs ≤ sum_by (count_of p M) vs
  stood_counted [] apart p on vs there = omega arith
  stood_counted (x ∷ xs) apart p on vs there =
      let own = there x (inl refl) in
      let less = (one_less p x (on x (inl refl)) own.0 vs).0 own.1 in
      let rest = stood_counted xs apart.1 _ (λ y is. but_other p x y (λ h. apart.0 (rw (← h) is)) ∙ on y (inr is)) vs
      (λ y is. there y (inr is)) in
      omega (arith, less, rest)

  -- what lives somewhere or holds it is all that stands there
  all_counted : (s : ℕ) → live_of m M s + held_of m M s ≡ count_of (λ x. true) M s
  all_counted s = counts_sum _ _ (λ x. true) M M M refl refl (λ x a lt. split x a lt (is_shown m x) refl) s
    where
      split : (x : Entry) (a : ℕ) → 0 < a → (b : Bool) → is_shown m x ≡ b
          → one_if (settled_at (those (is_shown m) M.at x) == a) + one_if (settled_at (those (is_held m) M.at x) == a)
          ≡ one_if (settled_at (M.at x) == a)
      split x a lt true is =
          let z = nowhere a 0 lt refl in
          let l = ap (λ (b : Bool). one_if (settled_at (cond {A = ℕ} b (M.at x) 0) == a)) is in
          let r = ap (λ (b : Bool). one_if (settled_at (cond {A = ℕ} (not b) (M.at x) 0) == a)) is in
          omega (arith, z, l, r)
      split x a lt false is =
          let z = nowhere a 0 lt refl in
          let l = ap (λ (b : Bool). one_if (settled_at (cond {A = ℕ} b (M.at x) 0) == a)) is in
          let r = ap (λ (b : Bool). one_if (settled_at (cond {A = ℕ} (not b) (M.at x) 0) == a)) is in
          omega (arith, z, l, r)

  sums_alike : (f g : ℕ → ℕ) → ((s : ℕ) → f s ≡ g s) → (vs : List ℕ) → sum_by f vs ≡ sum_by g vs
  sums_alike f g same [] = refl
  sums_alike f g same (v ∷ vs) =
      let rest = sums_alike f g same vs in
      let here = same v in
      let a = sum_by-cons f v vs in
      let b = sum_by-cons g v vs in
      omega (arith, rest, here, a, b)

  -- Distinct blocks that stand in these segments are no more than the segments have.
  pub segments_counted : (load : ℕ → ℕ) → ((s : ℕ) → load s ≡ live_of m M s + held_of m M s) → (vs : List ℕ) (xs : List Entry) → AreApart xs
      → ((x : Entry) → IsIn xs x → (2 ≤ M.at x) × IsIn vs (segment_of (M.at x))) → length xs ≤ sum_by load vs
  segments_counted load is vs xs apart there =
      let most = stood_counted xs apart (λ x. true) (λ x is. refl) vs there in
      let same = sums_alike load (count_of (λ x. true) M) (λ s. is s ∙ all_counted s) vs in
      omega (arith, most, same)
