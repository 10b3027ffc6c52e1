use Rattle.std.proofs.Common.{◌≡◌}
use Rattle.lfs_model.specs.Content.{Content}
use Rattle.lfs_format.specs.Making.{HasChunk, WritesChunk}
use Rattle.lfs_format.proofs.making.write_later_usage.Given as goal

abbrev pub invariant-loop-index : goal.invariant-loop-index
invariant-loop-index g l =
    let old = g.D.SectorDevice.state l.initial.device in
    let now = g.D.SectorDevice.state l.device in
    record {
      writes : WritesChunk l.shape.version l.shape.segments old now;
      chunk : now.keeps_model → (before : Content) → HasChunk l.shape.version l.shape.segments l.shape.unit_power 1 before old.content
          → HasChunk l.shape.version l.shape.segments l.shape.unit_power l.index before now.content;
      failures : now.failures ≡ old.failures;
    }
