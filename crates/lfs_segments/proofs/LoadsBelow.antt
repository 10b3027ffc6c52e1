-- The blocks of all segments, added up by their numbers.
use Rattle.std.proofs.Common.{◌≡◌, ◌+◌, ℕ, zero, suc, List, [], ◌∷◌, length, get_or, refl, arith}
use Rattle.std.specs.Prelude.{sum_by}
use Rattle.std.proofs.lemmas.List.Sums.{sum_by-cons}
use Rattle.lfs_model.proofs.BelowSums.{sum_below}
use Rattle.lfs_segments.specs.Table.{SegmentNumbers, UsageTable, no_segment}
use Rattle.lfs_segments.specs.Victims.{load, load_of, loads}

-- the first one apart
sum_first : (f : ℕ → ℕ) (n : ℕ) → sum_below f (suc n) ≡ f 0 + sum_below (λ s. f (suc s)) n
sum_first f zero = omega arith
sum_first f (suc n) = omega (arith, sum_first f n)

-- the sum over a list goes by the places in it
sum_places : (xs : List SegmentNumbers) → sum_by load xs ≡ sum_below (λ s. load (get_or xs s no_segment)) (length xs)
sum_places [] = refl
sum_places (x ∷ xs) = omega (arith, sum_places xs, sum_by-cons load x xs, sum_first (λ s. load (get_or (x ∷ xs) s no_segment)) (length xs))

-- As many blocks as the segments have one by one.
pub loads_below : (t : UsageTable) → loads t ≡ sum_below (load_of t) (length t.segments)
loads_below t = sum_places t.segments
