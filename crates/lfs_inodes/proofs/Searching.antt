-- What a search of the index finds.
use Rattle.std.proofs.Common.{◌≡◌, ◌<◌, ◌-◌, ℕ, zero, suc, List, [], ◌∷◌, length, get_or, reverse, Result, Ok, Err, IfOk}
use Rattle.std.proofs.Common.{IfErr, refl, sym, ◌∙◌, ap, subst, arith}
use Rattle.std.specs.Prelude.{T}
use Rattle.std.specs.List.Sorted.{IsSearchInRange, IsBinarySearchResult, IsNonDecreasingBy}
use Rattle.std.specs.Ordering.{nat_cmp, ordering_index}
use Rattle.std.specs.FinMap.{is_sorted}
use Rattle.std.proofs.lemmas.Cmp.{ranked}
use Rattle.std.proofs.lemmas.List.{get_or-reverse, length-reverse}
use Rattle.lfs_inodes.specs.declared.index.Place.{Place}
use Rattle.lfs_inodes.specs.Code.{IsCode}
use Rattle.lfs_inodes.specs.Blocks.{Capacity, TableValue, number_at, HasNumberAt, IsGapFor}
use Rattle.lfs_inodes.specs.Held.{entries_in}
use Rattle.lfs_inodes.specs.Index.{AreRising, HasKeyAt, IndexValue, IsGapIn}
use Rattle.lfs_inodes.proofs.Blocks.{rises}
use Rattle.lfs_inodes.proofs.Held.{length-entries, value_of}
use Rattle.lfs_inodes.proofs.Reversed.{index_of, reversed_at}

-- ---- a binary search of places by falling keys
-- what it says of the index
abbrev pub IsSearched : List Place → ℕ → Result ℕ ℕ → Type 0
IsSearched items k r = record {
  bound : IsSearchInRange r (length items);
  found : IfOk r (λ at. HasKeyAt items k (length items - 1 - at));
  missing : AreRising items → IfErr r (λ at. IsGapIn items k (length items - at));
}

module _ (xs : List Place) (k : ℕ) where
  falls : AreRising (reverse xs) → (i j : ℕ) (d : Place) → i < j → j < length xs → (get_or xs j d).key.code < (get_or xs i d).key.code
  falls rising i j d lt in_list =
      let n = length-reverse xs in
      let x = ap (λ p. p.key.code) (reversed_at xs i d (omega arith)) in
      let y = ap (λ p. p.key.code) (reversed_at xs j d in_list) in
      let r = rising (length (reverse xs) - 1 - j) (length (reverse xs) - 1 - i) d (omega arith)
      (omega arith) in
      omega arith

  comparisons_rise : AreRising (reverse xs) → IsNonDecreasingBy (λ (p : Place). ordering_index (nat_cmp k p.key.code)) xs
  comparisons_rise rising i j d le lt = grind (arith, falls rising i j d)

  pub searched : (r : Result ℕ ℕ) → IsSearchInRange r (length xs) → IsBinarySearchResult (λ (p : Place). nat_cmp k p.key.code) xs r
      → IsSearched (reverse xs) k r
  searched (Ok at) within equal = record {
    bound = omega (arith, length-reverse xs);
    found = record {
      within = omega (arith, length-reverse xs);
      number = λ d. ap (λ (p : Place). p.key.code) (reversed_at xs at d within) ∙ sym (ranked k _ _ (sym (equal d)));
    };
    missing = λ rising. tt;
  }
  searched (Err at) within parted = record {
    bound = omega (arith, length-reverse xs);
    found = tt;
    missing = λ rising.
        let n = length-reverse xs in
        let parts = parted (comparisons_rise rising) in
        record {
          within = omega arith;
          before = λ j d lt.
              omega (
                arith,
                ap (λ (p : Place). p.key.code) (get_or-reverse xs j d (omega arith)),
                ranked k _ _ (sym (parts.1 (length xs - 1 - j) d (omega arith) (omega arith))),
              );
          after = λ j d le lt.
              omega (
                arith,
                ap (λ (p : Place). p.key.code) (get_or-reverse xs j d (omega arith)),
                ranked k _ _ (sym (parts.0 (length xs - 1 - j) d (omega arith) (omega arith))),
              );
        };
  }

pub searched_in : (n : ℕ) {xs : List Place} {v : IndexValue} → index_of n xs ≡ v → {ys : List Place} → ys ≡ xs → {m k : ℕ} → m ≡ k
    → (r : Result ℕ ℕ) → IsSearchInRange r (length ys) → IsBinarySearchResult (λ (p : Place). nat_cmp m p.key.code) ys r
    → IsSearched v.items k r
searched_in n view {ys} same {m} {k} is r within answer =
    subst (λ u. IsSearched u.items k r) (ap (index_of n) same ∙ view)
    (subst (λ l. IsSearched (reverse ys) l r) is (searched ys m r within answer))

-- ---- the same in the table
is_code : IsCode 32768
is_code = grind arith

some_place : Place
some_place = record { key = record { code = 32768; formed = is_code }; spot = 0 }

number_of_place : (ps : List Place) (bs : List (List ℕ)) (i : ℕ) (d : Place) → i < length ps
    → number_at (entries_in ps bs) i ≡ (get_or ps i d).key.code
number_of_place [] bs i d lt = absurd (omega arith)
number_of_place (p ∷ ps) bs zero d lt = refl
number_of_place (p ∷ ps) bs (suc i) d lt = number_of_place ps bs i d (omega arith)

pub places_rise : (ps : List Place) (bs : List (List ℕ)) → T (is_sorted nat_cmp (entries_in ps bs)) → AreRising ps
places_rise ps bs sorted i j d lt within =
    grind (
      arith,
      length-entries ps bs,
      number_of_place ps bs i d,
      number_of_place ps bs j d within,
      rises (entries_in ps bs) sorted i j lt,
    )

number_found : (ps : List Place) (bs : List (List ℕ)) (c i : ℕ) → HasKeyAt ps c i → HasNumberAt (entries_in ps bs) c i
number_found ps bs c i h =
    let l = length-entries ps bs in
    let w = h.within in
    record { within = omega arith; number = number_of_place ps bs i some_place w ∙ h.number some_place }

gap_found : (ps : List Place) (bs : List (List ℕ)) (c : ℕ) {i : ℕ} → IsGapIn ps c i → IsGapFor (entries_in ps bs) c i
gap_found ps bs c h =
    let l = length-entries ps bs in
    record {
      within = omega arith;
      before = λ j lt.
          omega (arith, number_of_place ps bs j some_place (omega arith), h.before j some_place lt);
      after = λ j le lt.
          omega (arith, number_of_place ps bs j some_place (omega arith), h.after j some_place le (omega arith));
    }

module _ (most : Capacity) (ps : List Place) (bs : List (List ℕ)) {t : TableValue} (view : value_of most ps bs ≡ t) (c : ℕ) where
  pub found_in : (r : Result ℕ ℕ) → IfOk r (HasKeyAt ps c) → IfOk r (HasNumberAt t.blocks c)
  found_in (Ok at) h = subst (λ u. HasNumberAt u.blocks c at) view (number_found ps bs c at h)
  found_in (Err at) h = tt

  pub missing_in : (r : Result ℕ ℕ) → IfErr r (IsGapIn ps c) → IfErr r (IsGapFor t.blocks c)
  missing_in (Ok at) h = tt
  missing_in (Err at) h = subst (λ u. IsGapFor u.blocks c at) view (gap_found ps bs c h)
