-- What units may have: a power of 2, at most 64 sectors. So whole units fill a segment.
use Rattle.std.proofs.Common.{◌≡◌, ◌<◌, ◌≤◌, ◌+◌, ◌-◌, ◌*◌, ◌/◌, ◌%◌, ◌^◌, cond, Bool, true, false, ℕ, zero, suc, Some, refl, ◌∙◌, ap}
use Rattle.std.proofs.Common.{arith}
use Rattle.lfs_model.specs.Checkpoint.{CheckpointValue, unit_sectors}
use Rattle.lfs_model.specs.Content.{Content, newest}
use Rattle.lfs_model.specs.Crash.{IsFreeSector}
use Rattle.lfs_model.specs.Reach.{view}
use Rattle.lfs_model.specs.Stands.{Usages}
use Rattle.lfs_model.specs.UnitLaws.{unit_by}
use Rattle.lfs_model.proofs.Newest.{newest_few}
use Rattle.lfs_model.proofs.UnitWrites.{aligned_free}

by_power : (P : ℕ → Type 0) → P 0 → P 1 → P 2 → P 3 → P 4 → P 5 → P 6 → (p : ℕ) → p ≤ 6 → P p
by_power P a b c d e f g zero le = a
by_power P a b c d e f g (suc zero) le = b
by_power P a b c d e f g (suc (suc zero)) le = c
by_power P a b c d e f g (suc (suc (suc zero))) le = d
by_power P a b c d e f g (suc (suc (suc (suc zero)))) le = e
by_power P a b c d e f g (suc (suc (suc (suc (suc zero))))) le = f
by_power P a b c d e f g (suc (suc (suc (suc (suc (suc zero)))))) le = g
by_power P a b c d e f g (suc (suc (suc (suc (suc (suc (suc p))))))) le = absurd (omega (arith, le))

-- it has some sectors, and so many fill a segment
fills : (p : ℕ) → p ≤ 6 → (0 < 2 ^ p) × (e : ℕ) × (e * 2 ^ p ≡ 64)
fills = by_power (λ p. (0 < 2 ^ p) × (e : ℕ) × (e * 2 ^ p ≡ 64)) (omega arith, 64, refl) (omega arith, 32, refl) (omega arith, 16, refl)
    (omega arith, 8, refl) (omega arith, 4, refl) (omega arith, 2, refl) (omega arith, 1, refl)

-- what leaves no rest is so many whole ones
whole_times : (p : ℕ) → p ≤ 6 → (n : ℕ) → n % 2 ^ p ≡ 0 → (f : ℕ) × (n ≡ f * 2 ^ p)
whole_times = by_power (λ p. (n : ℕ) → n % 2 ^ p ≡ 0 → (f : ℕ) × (n ≡ f * 2 ^ p)) (λ n z. (n / 1, omega (arith, z)))
    (λ n z. (n / 2, omega (arith, z))) (λ n z. (n / 4, omega (arith, z))) (λ n z. (n / 8, omega (arith, z)))
    (λ n z. (n / 16, omega (arith, z))) (λ n z. (n / 32, omega (arith, z))) (λ n z. (n / 64, omega (arith, z)))

-- nothing is whole units, and so is a segment
pub nothing_whole : (p : ℕ) → p ≤ 6 → 0 % 2 ^ p ≡ 0
nothing_whole = by_power (λ p. 0 % 2 ^ p ≡ 0) refl refl refl refl refl refl refl

pub segment_whole : (p : ℕ) → p ≤ 6 → 64 % 2 ^ p ≡ 0
segment_whole = by_power (λ p. 64 % 2 ^ p ≡ 0) refl refl refl refl refl refl refl

-- with what it lacks a number of sectors is whole units, and still within a segment
pub filled_up : (p : ℕ) → p ≤ 6 → (n : ℕ) → (n % 2 ^ p ≡ 0 → ⊥)
    → ((n + (2 ^ p - n % 2 ^ p)) % 2 ^ p ≡ 0) × (n ≤ 64 → n + (2 ^ p - n % 2 ^ p) ≤ 64)
filled_up = by_power (λ p. (n : ℕ) → (n % 2 ^ p ≡ 0 → ⊥)
    → ((n + (2 ^ p - n % 2 ^ p)) % 2 ^ p ≡ 0) × (n ≤ 64 → n + (2 ^ p - n % 2 ^ p) ≤ 64))
    (λ n ne. (omega (arith, ne), λ le. omega (arith, ne, le))) (λ n ne. (omega (arith, ne), λ le. omega (arith, ne, le)))
    (λ n ne. (omega (arith, ne), λ le. omega (arith, ne, le))) (λ n ne. (omega (arith, ne), λ le. omega (arith, ne, le)))
    (λ n ne. (omega (arith, ne), λ le. omega (arith, ne, le))) (λ n ne. (omega (arith, ne), λ le. omega (arith, ne, le)))
    (λ n ne. (omega (arith, ne), λ le. omega (arith, ne, le)))

-- the least number of whole units that has so many sectors, for the chunk of a new volume
pub made_whole : (p : ℕ) → p ≤ 6 → (u : ℕ) → u ≤ 16 → (3 + u ≤ (2 + u + 2 ^ p) / 2 ^ p * 2 ^ p) × ((2 + u + 2 ^ p) / 2 ^ p * 2 ^ p ≤ 64)
    × ((2 + u + 2 ^ p) / 2 ^ p * 2 ^ p % 2 ^ p ≡ 0)
made_whole = by_power (λ p. (u : ℕ) → u ≤ 16 → (3 + u ≤ (2 + u + 2 ^ p) / 2 ^ p * 2 ^ p) × ((2 + u + 2 ^ p) / 2 ^ p * 2 ^ p ≤ 64)
    × ((2 + u + 2 ^ p) / 2 ^ p * 2 ^ p % 2 ^ p ≡ 0))
    (λ u most. (omega (arith, most), omega (arith, most), omega arith)) (λ u most. (omega (arith, most), omega (arith, most), omega arith))
    (λ u most. (omega (arith, most), omega (arith, most), omega arith)) (λ u most. (omega (arith, most), omega (arith, most), omega arith))
    (λ u most. (omega (arith, most), omega (arith, most), omega arith)) (λ u most. (omega (arith, most), omega (arith, most), omega arith))
    (λ u most. (omega (arith, most), omega (arith, most), omega arith))

-- a shift gives it
pub shifted : (p : ℕ) → p ≤ 6 → 1 * 2 ^ p % 65536 ≡ 2 ^ p
shifted = by_power (λ p. 1 * 2 ^ p % 65536 ≡ 2 ^ p) refl refl refl refl refl refl refl

-- where a part in use is whole units, what is saved of it is
pub saved_whole : (b : Bool) (used p : ℕ) → p ≤ 6 → used % 2 ^ p ≡ 0 → cond {A = ℕ} b 0 used % 2 ^ p ≡ 0
saved_whole true used p few whole = nothing_whole p few
saved_whole false used p few whole = whole

-- the unit of a free sector is free as a whole
pub unit_free : (c : Content) (k : CheckpointValue) → newest c ≡ Some k → Usages (view c k) → (at : ℕ) → IsFreeSector c k at → (j : ℕ)
    → unit_by (unit_sectors k) j ≡ unit_by (unit_sectors k) at → IsFreeSector c k j
unit_free c k is usages at free j same =
    let few = newest_few c k is in
    let size = fills k.unit_power few in
    let part = whole_times k.unit_power few _ (usages.whole free.segment free.below) in
    aligned_free (unit_sectors k) size.1 part.0 c k free.segment free.place size.0 size.2 part.1 free.unused free.within free.below j
    (same ∙ ap (unit_by (unit_sectors k)) free.is)

-- a slot is a unit by itself
pub slot_alone : (u s j : ℕ) → s < 2 → unit_by u j ≡ unit_by u s → j ≡ s
slot_alone u zero zero low is = refl
slot_alone u zero (suc zero) low is = absurd (omega (arith, is))
slot_alone u zero (suc (suc j)) low is = absurd (omega (arith, is))
slot_alone u (suc zero) zero low is = absurd (omega (arith, is))
slot_alone u (suc zero) (suc zero) low is = refl
slot_alone u (suc zero) (suc (suc j)) low is = absurd (omega (arith, is))
slot_alone u (suc (suc s)) j low is = absurd (omega (arith, low))
