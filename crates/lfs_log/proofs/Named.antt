-- What stands in a segment is named by its summaries.
use Rattle.std.proofs.Common.{◌≡◌, ◌<◌, ◌≤◌, ◌+◌, ◌-◌, ◌*◌, ◌/◌, ◌%◌, ℕ, [], length, get_or, Option, Some, None, sym}
use Rattle.std.proofs.Common.{◌∙◌, ap, arith}
use Rattle.lfs_model.specs.Checkpoint.{CheckpointValue}
use Rattle.lfs_model.specs.Device.{DeviceState}
use Rattle.lfs_model.specs.Entry.{Entry}
use Rattle.lfs_model.specs.Memory.{Memory}
use Rattle.lfs_model.specs.Reach.{Row, row_by, place_in, segment_start}
use Rattle.lfs_model.specs.Stands.{LogMap}
use Rattle.lfs_memory.specs.segments.Table.{used_of}
use Rattle.lfs_memory.specs.declared.memory.LogMemory.{LogMemory}
use Rattle.lfs_memory.specs.Memory.{IsLoose}
use Rattle.lfs_memory.proofs.Opened.{closed_segment}
use Rattle.lfs_log.specs.verify.Rows.{HasRow}

module _ (d : DeviceState) (v : LogMemory) (k : CheckpointValue) {m0 : LogMap} (m : LogMap) (is : IsLoose d v k m0 m) (segment : ℕ)
    (closed : v.chunk.names ≡ []) (low : segment < length v.usage.segments) where
  abbrev M : Memory
  M = is.running.memory

  row_known : row_by d.content (used_of v.usage segment) segment ≡ Some (M.rows segment)
  row_known =
      let none = closed_segment v.chunk (ap length closed) in
      let few = is.running.laid.few in
      let size = is.running.segments in
      let same = is.segments in
      let used = is.running.tables.used segment in
      ap (λ (n : ℕ). row_by d.content n segment) used
      ∙ is.running.laid.sealed segment (λ h. omega (arith, h, none, few, size, same, low))

  pub has_row : HasRow (row_by d.content (used_of v.usage segment) segment)
  has_row = (M.rows segment, row_known)

  pub stands_named : (y : Entry) → segment_start segment ≤ M.at y → M.at y < segment_start (segment + 1)
      → place_in (row_by d.content (used_of v.usage segment) segment) (M.at y - (2 + 64 * segment)) ≡ Some y
  stands_named y from to =
      let s : (M.at y - 2) / 64 ≡ segment = omega (arith, from, to) in
      let o : (M.at y - 2) % 64 ≡ M.at y - (2 + 64 * segment) = omega (arith, from, to) in
      ap (λ (r : Option Row). place_in r (M.at y - (2 + 64 * segment))) row_known
      ∙ ap (λ (i : ℕ). get_or (M.rows segment) i None) (sym o)
      ∙ ap (λ (j : ℕ). get_or (M.rows j) ((M.at y - 2) % 64) None) (sym s)
      ∙ is.running.laid.named y (omega (arith, from))
