-- Where the first chunk stands on a device, and which of its sectors are cleared first.
use Rattle.std.proofs.Common.{◌≡◌, inl, inr, ℕ, zero, suc, ◌+◌, ◌*◌, ◌<◌, ◌≤◌, refl, arith}
use Rattle.lfs_model.specs.Checkpoint.{IsSectorVersion, usage_blocks}
use Rattle.lfs_model.proofs.Versions.{by_sector_version}
use Rattle.lfs_places.specs.declared.Places.{Places}
use Rattle.lfs_places.specs.declared.Places.TheVariants.{Old, New}
use Rattle.lfs_places.specs.Lawful.{one_place}
use Rattle.lfs_places.specs.Places.{least_size, place_of, volume_size}
use Rattle.lfs_places.proofs.Placing.{place_inside}
use Rattle.lfs_format.specs.Making.{IsCleared, IsOfChunk, places_by, unused_slot}

-- a device on which a volume has room has the sectors in front of it
long_device : (places : Places) (N size : ℕ) → 64 ≤ N → 2 + 64 * N ≤ volume_size places size → least_size places ≤ size
long_device Old N size some room = omega arith
long_device New N size some room = omega (arith, some, room)

-- and its first sectors
pub chunk_inside : (places : Places) (N size j : ℕ) → 64 ≤ N → 2 + 64 * N ≤ volume_size places size → j < 128 → place_of places j < size
chunk_inside places N size j some room low =
    place_inside places j size (long_device places N size some room) (omega (arith, some, room, low))

-- ---- the sectors that are cleared

pub first_cleared : IsCleared 0
first_cleared = inl refl

pub second_cleared : IsCleared 1
second_cleared = inr (inl refl)

pub apart_cleared : IsCleared 128
apart_cleared = inr (inr refl)

pub cleared_low : (k : ℕ) → IsCleared k → k < 129
cleared_low k (inl is) = omega (arith, is)
cleared_low k (inr (inl is)) = omega (arith, is)
cleared_low k (inr (inr is)) = omega (arith, is)

-- a slot of a volume is one of them, and so is the one that is none
pub slot_0 : (places : Places) → place_of places 0 ≡ 0
slot_0 Old = refl
slot_0 New = refl

pub slot_cleared : (places : Places) → IsCleared (place_of places 1)
slot_cleared Old = second_cleared
slot_cleared New = apart_cleared

pub unused_cleared : (places : Places) → IsCleared (unused_slot places)
unused_cleared Old = apart_cleared
unused_cleared New = second_cleared

pub unused_apart : (places : Places) → unused_slot places ≡ place_of places 1 → ⊥
unused_apart Old e = omega (arith, e)
unused_apart New e = omega (arith, e)

-- no sector of the chunk is
pub chunk_apart : (places : Places) (j : ℕ) → 2 ≤ j → j < 128 → IsCleared (place_of places j) → ⊥
chunk_apart Old j past low (inl is) = omega (arith, is, past)
chunk_apart Old j past low (inr (inl is)) = omega (arith, is, past)
chunk_apart Old j past low (inr (inr is)) = omega (arith, is, low)
chunk_apart New zero past low is = omega (arith, past)
chunk_apart New (suc zero) past low is = omega (arith, past)
chunk_apart New (suc (suc k)) past low (inl is) = omega (arith, is)
chunk_apart New (suc (suc k)) past low (inr (inl is)) = omega (arith, is)
chunk_apart New (suc (suc k)) past low (inr (inr is)) = omega (arith, is)

pub few_usage : (N : ℕ) → N ≤ 1024 → usage_blocks N ≤ 16
few_usage N most = omega (arith, most)

pub not_cleared : (version N : ℕ) → N ≤ 1024 → (k : ℕ) → IsOfChunk version N k → IsCleared k → ⊥
not_cleared version N most k is cleared =
    let few = few_usage N most in
    let past = is.1 in
    let low = is.2 in
    chunk_apart (places_by version) is.0 past (omega (arith, few, low)) (rw is.3 at cleared)

-- two sectors of a volume stand at two places
pub two_places : (places : Places) (j k : ℕ) → (j ≡ k → ⊥) → place_of places j ≡ place_of places k → ⊥
two_places places j k ne same = ne (one_place places j k same)

-- a version whose units are sectors has the old places
pub old_places : (version : ℕ) → IsSectorVersion version → places_by version ≡ Old
old_places version known = by_sector_version (λ v. places_by v ≡ Old) refl refl version known
