-- What a chunk that begins leaves of the table, in a clean segment or behind another chunk.
use Rattle.std.proofs.Common.{◌≡◌, ◌<◌, ℕ, true, length, arith}
use Rattle.lfs_segments.specs.Steps.{Begins}
use Rattle.lfs_segments.specs.Table.{UsageTable, used_of, kept_of, address_of, stale_of}

module _ (old new : UsageTable) (s number : ℕ) (go : Begins old new s number) where
  pub begins_inside : s < length old.segments
  begins_inside = grind arith

  pub begins_size : length new.segments ≡ length old.segments
  begins_size = grind arith

  pub begins_unit : new.unit ≡ old.unit
  begins_unit = grind arith

  -- the segment has room for a block
  pub begins_room : used_of new s < 64
  begins_room = grind arith

  pub begins_kept : (i : ℕ) → kept_of new i ≡ kept_of old i
  begins_kept i = grind arith

  pub begins_address : (j : ℕ) → address_of new j ≡ address_of old j
  begins_address j = grind arith

  pub begins_stale : (j : ℕ) → stale_of old j ≡ true → stale_of new j ≡ true
  begins_stale j on = grind arith
