use Rattle.std.proofs.Common.{rules, ◌<◌, length, arith}
use Rattle.lfs_log.proofs.committing.seal_rest.Goals as goal
use Rattle.lfs_memory.proofs.Going.{goes_none, goes_at_most, ok_then, err_then}
use Rattle.lfs_memory.specs.Moving.{HoldsOn, StaysPut}
use Rattle.lfs_memory.proofs.Moved.{holds_none}
use Rattle.lfs_memory.proofs.Padded.{only_none, only_then, pads_begun, pads_memory, pads_only, to_full}
use Rattle.lfs_log.proofs.Padding.{due_some, only_chunk, padded_sealed, padded_stays, padded_stops}

pub returns-then-is_empty-clause-done : goal.returns-then-is_empty-clause-done
returns-then-is_empty-clause-done g c =
    goes_at_most _ _ _ _ 0 62 (omega arith) (goes_none _ (g.met.D.SectorDevice.lawful c.args.device.now) c.requires.memory)

pub returns-then-is_empty-clause-only : goal.returns-then-is_empty-clause-only
returns-then-is_empty-clause-only g c = only_none c.args.memory.now

pub seal-requires-clause-begun : goal.seal-requires-clause-begun
seal-requires-clause-begun g c = pads_begun c.pad_rest.ensures.pads (search rules)

pub seal-requires-clause-memory : goal.seal-requires-clause-memory
seal-requires-clause-memory g c = pads_memory c.pad_rest.ensures.pads (to_full c.requires.memory)

pub seal-requires-clause-size : goal.seal-requires-clause-size
seal-requires-clause-size g c =
    omega (arith, c.requires.size, (pads_only c.pad_rest.ensures.pads (to_full c.requires.memory)).size)

pub returns-clause-only : goal.returns-clause-only
returns-clause-only g c =
    only_then (pads_only c.pad_rest.ensures.pads (to_full c.requires.memory)) (only_chunk c.seal.ensures.only)

pub returns-clause-done : goal.returns-clause-done
returns-clause-done g c =
    let some : 0 < length c.args.memory.now.chunk.names = search rules in
    ok_then _ _ _ (λ goes. padded_sealed (g.met.D.SectorDevice.lawful c.args.device.now) c.requires.memory some c.pad_rest.ensures.pads goes
    (returns-clause-only g c)) c.seal.ensures.done

pub returns-clause-stopped : goal.returns-clause-stopped
returns-clause-stopped g c =
    err_then _ _ _ (padded_stops (g.met.D.SectorDevice.lawful c.args.device.now) c.requires.memory c.pad_rest.ensures.pads)
    c.seal.ensures.stopped

pub returns-clause-told : goal.returns-clause-told
returns-clause-told g c =
    let some : 0 < length c.args.memory.now.chunk.names = search rules in
    omega (arith, c.seal.ensures.told, (returns-clause-only g c).clean, due_some c.args.memory.now.chunk c.args.memory.now.usage some)

pub returns-then-is_empty-clause-stays : goal.returns-then-is_empty-clause-stays
returns-then-is_empty-clause-stays g c = holds_none

pub returns-clause-stays : goal.returns-clause-stays
returns-clause-stays g c =
    let d = g.D.SectorDevice.state c.args.device.now in
    let d' = g.D.SectorDevice.state c.seal.new.device in
    ok_then _ (HoldsOn d d' c.pad_rest.new.memory c.seal.new.memory StaysPut) _
    (λ stays. padded_stays {d = d} {d' = d'} {v'' = c.seal.new.memory} c.requires.memory c.pad_rest.ensures.pads stays) c.seal.ensures.stays
