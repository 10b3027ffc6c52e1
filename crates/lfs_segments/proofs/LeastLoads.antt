-- The first ones in the order by blocks have the least: where no beginning of them gains, no list does.
use Rattle.std.proofs.Common.{◌≡◌, ◌<◌, ◌≤◌, ⊎_elim, ℕ, List, [], ◌∷◌, length, take, length-take-le, sym, ap, arith, inl, inr, refl}
use Rattle.std.specs.Prelude.{sum_by}
use Rattle.std.specs.List.{AllByRecursion}
use Rattle.std.proofs.lemmas.Bool.{cases_lt}
use Rattle.lfs_model.specs.Members.{IsIn, AreApart}
use Rattle.lfs_segments.specs.declared.candidate.Preference.TheVariants as preference
use Rattle.lfs_segments.specs.Choosing.{Exhausts}
use Rattle.lfs_segments.specs.Table.{UsageTable}
use Rattle.lfs_segments.specs.Victims.{load_of, MayBeVictim, AreFirst, AreVictims, ComesBefore}
use Rattle.lfs_segments.proofs.LeastSums.{all_in, least_sum}
use Rattle.lfs_segments.proofs.Firsts.{in_or_out, taken_first}
use Rattle.lfs_segments.proofs.Gaining.{not_longer}

-- ---- the greatest one
greatest : (f : ℕ → ℕ) (x : ℕ) (xs : List ℕ) → (v : ℕ) × IsIn (x ∷ xs) v × ((y : ℕ) → IsIn (x ∷ xs) y → f y ≤ f v)
greatest f x [] = (x, inl refl, λ y is. ⊎_elim (λ here. omega (arith, ap f here)) (λ none. absurd none) is)
greatest f x (z ∷ zs) =
    let rest = greatest f z zs in
    let v = rest.0 in
    let in_rest = rest.1 in
    let top = rest.2 in
    ⊎_elim
    (λ more. (
      x,
      inl refl,
      λ y is. ⊎_elim
          (λ here. omega (arith, ap f here))
          (λ later. omega (arith, top y later))
          is,
    ))
    (λ less. (
      v,
      inr in_rest,
      λ y is. ⊎_elim
          (λ here. omega (arith, ap f here))
          (λ later. top y later)
          is,
    ))
    (cases_lt (f v) (f x))

pub greatest_in : (f : ℕ → ℕ) (xs : List ℕ) → 0 < length xs → (v : ℕ) × IsIn xs v × ((y : ℕ) → IsIn xs y → f y ≤ f v)
greatest_in f [] some = absurd (omega arith)
greatest_in f (x ∷ xs) some = greatest f x xs

-- a segment with fewer blocks than one that is chosen is chosen
pub least_in : (t : UsageTable) {xs : List ℕ} → AreFirst t (ComesBefore t) xs → (v : ℕ) → IsIn xs v → (s : ℕ) → MayBeVictim t s
    → load_of t s < load_of t v → IsIn xs s
least_in t {xs} first v is s there less = ⊎_elim
    (λ chosen. chosen)
    (λ out. absurd (⊎_elim
    (λ fewer. omega arith)
    (λ as_many. omega arith)
    (first.others v s is there out)))
    (in_or_out xs s)

-- no list of as many segments has fewer blocks
least_blocks : (t : UsageTable) (xs vs : List ℕ) → AreFirst t (ComesBefore t) xs → AreApart vs → AllByRecursion (MayBeVictim t) vs
    → length vs ≡ length xs → sum_by (load_of t) xs ≤ sum_by (load_of t) vs
least_blocks t [] vs first apart each same = omega arith
least_blocks t (x ∷ xs) vs first apart each same =
    let top = greatest (load_of t) x xs in
    least_sum (load_of t top.0) (load_of t) (x ∷ xs) vs apart same top.2
    (λ y is less. least_in t first top.0 top.1 y (all_in (MayBeVictim t) vs each y is) less)

-- Where no beginning gains, there are no victims.
pub no_victims : (t : UsageTable) (meta most : ℕ) → Exhausts t meta most preference.Load → (vs : List ℕ) → AreVictims t meta most vs → ⊥
no_victims t meta most is vs are =
    let le = not_longer meta most preference.Load is.first is.each is.apart is.ended are in
    let long = length-take-le (length vs) is.all le in
    let least = least_blocks t (take (length vs) is.all) vs (taken_first t (ComesBefore t) (length vs) is.first) are.apart are.each
    (sym long) in
    omega (arith, is.lacks (length vs) le)
