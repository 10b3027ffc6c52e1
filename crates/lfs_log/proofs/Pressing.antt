-- The segments of a log that holds a log map hold no more blocks than the totals of its files say.
use Rattle.std.proofs.Common.{◌≡◌, ◌<◌, ◌≤◌, ◌+◌, ◌*◌, ℕ, [], length, refl, Some, None, sym, ◌∙◌, ap, arith}
use Rattle.std.proofs.lemmas.List.{get_or_past}
use Rattle.lfs_model.specs.Checkpoint.{CheckpointValue}
use Rattle.lfs_model.specs.declared.limits.TheConstants.{LEAST_NEED, NEED_OF_META, NEED_OF_SEGMENT}
use Rattle.lfs_model.specs.Device.{DeviceState}
use Rattle.lfs_model.specs.Encodes.{IsLogMap}
use Rattle.lfs_model.specs.Entry.{Entry, Map}
use Rattle.lfs_model.specs.Memory.{IsOfFile, live_of, held_of}
use Rattle.lfs_model.specs.Stands.{LogMap}
use Rattle.lfs_model.specs.Totals.{data_in, meta_in}
use Rattle.lfs_model.proofs.BelowSums.{sum_below, sum_same}
use Rattle.lfs_model.proofs.StoredCounted.{stored_counted}
use Rattle.lfs_memory.specs.inodes.Blocks.{Blocks, blocks_in}
use Rattle.lfs_memory.specs.inodes.MapValue.{IsMap, block_in}
use Rattle.lfs_memory.specs.declared.memory.LogMemory.{LogMemory}
use Rattle.lfs_memory.specs.Memory.{IsMemory, IsLog}
use Rattle.lfs_memory.specs.segments.Table.{clean_in}
use Rattle.lfs_memory.specs.segments.Victims.{IsPressed, load_of}
use Rattle.lfs_memory.proofs.of_segments.LoadsBelow.{loads_below}
use Rattle.lfs_log.specs.LogState.{LogState, Holds, IsWhole}
use Rattle.lfs_log.proofs.Unsaved.{none_left}

-- ---- the segments hold no more blocks than the files' totals say
module _ {d : DeviceState} (v : LogMemory) (k : CheckpointValue) (m0 m : LogMap) (is : IsLog d v k m0 m)
    (nothing : v.dirty.blocks ≡ []) where
  none_inside : (x : Entry) → IsOfFile x → is.running.memory.at x ≡ 1 → ⊥
  none_inside x file one =
      let there = is.running.cached.found x file one in
      let bad : None ≡ Some there.0 = sym (ap (λ (bs : Blocks). blocks_in bs x) nothing) ∙ there.1 in
      absurd (cc)

  -- the inode map has 32 blocks
  past : IsMap v.map → (j : ℕ) → 32 ≤ j → block_in v.map j ≡ 0
  past maps j high = get_or_past v.map.blocks j 0 (let e = maps.blocks in omega (arith, e, high))

  pressed_here : {meta : ℕ} → IsMemory v → IsMap v.map → IsLogMap m → 4 * clean_in v.usage.segments < length v.usage.segments
      → meta ≡ meta_in m
      → data_in m + 7 * meta_in m + 720 ≤ 47 * length v.usage.segments → IsPressed v.usage meta
  pressed_here memory maps map few counted need = record {
    count = memory.count;
    few = few;
    blocks =
        let w = is.running in
        let stored = stored_counted d.content m w.memory _ w.laid map none_inside (λ j high. w.tables.at (Map j) refl ∙ past maps j high) in
        let same = sum_same (load_of v.usage) (λ s. live_of m w.memory s + held_of m w.memory s) (length v.usage.segments)
        (λ s. let l = w.tables.live s in let h = w.tables.held s in omega (arith, l, h)) in
        let size : w.memory.segments ≡ length v.usage.segments = w.segments ∙ sym is.segments in
        let all = ap (sum_below (λ s. live_of m w.memory s + held_of m w.memory s)) size in
        let loads = loads_below v.usage in
        omega (arith, stored, same, all, need, counted, loads);
  }

-- so it is of a log of which nothing waits in memory
module _ {D : Type 0} (state : D → DeviceState) (h : LogState D) (k : CheckpointValue) (m0 m : LogMap) (is : Holds state h k m0 m)
    (whole : IsWhole h) (nothing : h.waiting ≡ 0) where
  pub pressed : (meta : ℕ) → IsLogMap m → 4 * h.clean < h.segments → meta ≡ meta_in m
      → data_in m + NEED_OF_META * meta_in m + LEAST_NEED ≤ NEED_OF_SEGMENT * h.segments → IsPressed h.usage meta
  pressed meta map few counted need =
      let empty = whole.blocks in
      let many = whole.segments in
      let clean = whole.clean in
      rw whole.usage (pressed_here h.inner k m0 m is.log (none_left h.inner.dirty.blocks (omega (arith, empty, nothing)))
      (whole.memory is.running) whole.map map (rw (← whole.usage) (omega (arith, few, many, clean))) counted (rw (← whole.usage)
      (omega (arith, need, many))))
