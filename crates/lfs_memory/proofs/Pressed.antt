-- Where a pass of the cleaner may begin there are victims: the segments hold no more blocks than the tree's need says.
use Rattle.std.proofs.Common.{◌≡◌, ◌<◌, ◌≤◌, ◌+◌, ◌*◌, ℕ, [], length, refl, None, sym, ◌∙◌, ap, arith}
use Rattle.std.proofs.lemmas.List.{get_or_past}
use Rattle.lfs_model.specs.Checkpoint.{CheckpointValue}
use Rattle.lfs_model.specs.Device.{DeviceState}
use Rattle.lfs_model.specs.Encodes.{IsLogMap}
use Rattle.lfs_model.specs.Entry.{Entry, Map}
use Rattle.lfs_model.specs.Memory.{IsOfFile, live_of, held_of}
use Rattle.lfs_model.specs.Stands.{LogMap}
use Rattle.lfs_model.specs.Totals.{data_in, meta_in}
use Rattle.lfs_model.specs.TreeOf.{dropped}
use Rattle.lfs_model.proofs.BelowSums.{sum_below, sum_same}
use Rattle.lfs_model.proofs.StoredCounted.{stored_counted}
use Rattle.lfs_segments.specs.Table.{clean_in}
use Rattle.lfs_segments.specs.Victims.{load_of, IsPressed}
use Rattle.lfs_segments.proofs.LoadsBelow.{loads_below}
use Rattle.lfs_inodes.specs.Blocks.{TableValue, blocks_of}
use Rattle.lfs_inodes.specs.MapValue.{IsMap, block_in}
use Rattle.lfs_memory.specs.declared.memory.LogMemory.{LogMemory}
use Rattle.lfs_memory.specs.Memory.{IsMemory, IsLog}

-- All is saved, no chunk is open, at least an eighth of the segments is
-- clean but fewer than a quarter, and the totals are within the volume.
pub record MayPass (d : DeviceState) (v : LogMemory) (k : CheckpointValue) (m : LogMap) (meta : ℕ) : Type 0 where
  pub log : IsLog d v k (dropped m) m
  pub map : IsLogMap m
  pub nothing : v.dirty.blocks ≡ []
  pub closed : v.chunk.names ≡ []
  pub few : 4 * clean_in v.usage.segments < length v.usage.segments
  pub many : length v.usage.segments ≤ 8 * clean_in v.usage.segments
  pub meta_is : meta ≡ meta_in m
  pub need : data_in m + 7 * meta + 720 ≤ 47 * length v.usage.segments

-- The table of usage is pressed then: `victims` finds a list.
pub pressed : (d : DeviceState) (v : LogMemory) (k : CheckpointValue) (m : LogMap) {meta : ℕ} → IsMemory v → IsMap v.map
    → MayPass d v k m meta → IsPressed v.usage meta
pressed d v k m memory maps may = record {
  count = memory.count;
  few = may.few;
  blocks =
      let w = may.log.running in
      let counted = stored_counted d.content m w.memory _ w.laid may.map none_inside (λ j high. w.tables.at (Map j) refl ∙ past j high) in
      let size : w.memory.segments ≡ length v.usage.segments = w.segments ∙ sym may.log.segments in
      let all = ap (sum_below (λ s. live_of m w.memory s + held_of m w.memory s)) size in
      let loads = loads_below v.usage in
      omega (
        arith,
        sum_same (load_of v.usage) (λ s. live_of m w.memory s + held_of m w.memory s) (length v.usage.segments)
            (λ s. let h = w.tables.held s in omega (arith, w.tables.live s)),
      );
}
  where
    none_of : (t : TableValue) → t.blocks ≡ [] → (x : Entry) → blocks_of t x ≡ None
    none_of t none x = rw none

    none_inside : (x : Entry) → IsOfFile x → may.log.running.memory.at x ≡ 1 → ⊥
    none_inside x file one = let f = may.log.running.cached.found x file one in
        cc

    -- the inode map has 32 blocks
    past : (j : ℕ) → 32 ≤ j → block_in v.map j ≡ 0
    past j high = get_or_past v.map.blocks j 0 (omega arith)
