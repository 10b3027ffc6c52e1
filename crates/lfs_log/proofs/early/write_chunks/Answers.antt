use Rattle.std.proofs.Common.{rules, ◌<◌, ◌≤◌, inl, inr, length, refl, ap, arith}
use Rattle.lfs_memory.specs.segments.Table.{clean_in}
use Rattle.lfs_memory.specs.inodes.Data.{data_count}
use Rattle.lfs_memory.specs.declared.memory.LogMemory.{LogMemory}
use Rattle.lfs_memory.proofs.Going.{on_err, stops_then, holds_volume_still}
use Rattle.lfs_log.specs.Early.{full_chunk}
use Rattle.lfs_log.specs.Thresholds.{reserve_of}
use Rattle.lfs_log.proofs.EarlyBlocks.{chunks_none, chunks_more}
use Rattle.lfs_log.proofs.early.write_chunks.Goals as goal

pub loop-memory-init : goal.loop-memory-init
loop-memory-init g c = record {
  chunks = chunks_none (g.met.D.SectorDevice.lawful c.args.device.now) c.requires.memory c.requires.closed;
  reserve = inl (refl, refl);
  idle = λ few. (refl, refl);
}

pub write_chunk-requires-clause-memory : goal.write_chunk-requires-clause-memory
write_chunk-requires-clause-memory g c = c.loop-memory.invariant.chunks.goes.1.memory

pub write_chunk-requires-clause-size : goal.write_chunk-requires-clause-size
write_chunk-requires-clause-size g c =
    holds_volume_still c.loop-memory.invariant.chunks.goes.1 c.requires.size

pub write_chunk-requires-clause-closed : goal.write_chunk-requires-clause-closed
write_chunk-requires-clause-closed g c = c.loop-memory.invariant.chunks.closed

pub returns-in_err-write_chunk-clause-stopped : goal.returns-in_err-write_chunk-clause-stopped
returns-in_err-write_chunk-clause-stopped g c =
    on_err _ _ (stops_then c.loop-memory.invariant.chunks.goes.1 c.in_err-write_chunk.ensures.stopped)

pub loop-memory-preserved : goal.loop-memory-preserved
loop-memory-preserved g c =
    let done = c.in_ok-write_chunk.ensures in
    let goes = done.done in
    let exceeds = c.exceeds_reserve.ensures.yes (search rules) in
    let segments = c.segments.ensures in
    let clean = c.clean.ensures in
    let above : reserve_of (length c.loop-memory.memory.usage.segments) < clean_in c.loop-memory.memory.usage.segments =
    omega (arith, exceeds, segments, clean) in
    let full : full_chunk ≤ data_count c.loop-memory.memory.dirty = c.has_data.ensures.yes (search rules) in
    let taken = done.taken in
    let size = goes.segments in
    record {
      chunks = chunks_more 125 c.loop-memory.invariant.chunks goes done.closed done.capacity
          done.fewer done.data_blocks done.due taken (let told = done.told in omega (arith, told));
      reserve = inr (omega (arith, above, taken, size));
      idle = λ few.
          let still = c.loop-memory.invariant.idle few in
          let same = ap (λ (v : LogMemory). data_count v.dirty) still.1 in
          absurd (omega (arith, same, few, full));
    }
