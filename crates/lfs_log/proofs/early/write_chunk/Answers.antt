use Rattle.std.proofs.Common.{rules, ◌≡◌, ◌≤◌, ◌∙◌, true, length, refl, ap, arith}
use Rattle.lfs_memory.specs.segments.Table.{UsageTable, clean_in}
use Rattle.lfs_memory.specs.inodes.Blocks.{TableValue}
use Rattle.lfs_memory.specs.inodes.Data.{data_count, is_data_code}
use Rattle.lfs_memory.proofs.Going.{on_err, goes_then, stops_then}
use Rattle.lfs_log.proofs.EarlyBlocks.{chunk_due, saved_told, stopped_told, early_none, early_then, ended_fresh, ended_goes, one_segment}
use Rattle.lfs_log.proofs.SavedBlocks.{saves_at_most, saves_none, saves_then, stops_behind}
use Rattle.lfs_log.proofs.early.write_chunk.Goals as goal

pub loop-init : goal.loop-init
loop-init g c = record {
  saves = saves_none (g.met.D.SectorDevice.lawful c.args.device.now) (ended_goes c.args.memory.now c.end_last.ensures
      (g.met.D.SectorDevice.lawful c.args.device.now) c.requires.memory c.requires.closed).memory;
  early = early_none (ended_fresh c.args.memory.now c.end_last.ensures c.requires.closed);
  left = omega arith;
  capacity = refl;
}

pub loop-preserved : goal.loop-preserved
loop-preserved g c =
    let left = c.loop.invariant.left in
    let many = c.requires.data_blocks in
    let lt = c.loop-test.true in
    let kind : is_data_code c.unwrap-key.result.code ≡ true =
    (let some : 1 ≤ data_count c.loop.memory.dirty = omega (arith, left, many, lt) in search rules) in
    let one = c.in_ok-save_block.ensures.data_blocks kind in
    record {
      saves = saves_then c.loop.invariant.saves c.in_ok-save_block.ensures.saves.done;
      early = early_then _ 1 c.loop.invariant.early (c.in_ok-save_block.ensures.early c.loop.invariant.early.fresh);
      left = omega (arith, left, one);
      capacity = c.in_ok-save_block.ensures.capacity ∙ c.loop.invariant.capacity;
    }

pub returns-in_err-save_block-clause-stopped : goal.returns-in_err-save_block-clause-stopped
returns-in_err-save_block-clause-stopped g c =
    on_err _ _ (stops_then (ended_goes _ c.end_last.ensures (g.met.D.SectorDevice.lawful c.args.device.now) c.requires.memory
    c.requires.closed) (stops_behind c.loop.invariant.saves c.in_err-save_block.ensures.saves.stopped).stops)

pub returns-in_err-save_block-clause-most : goal.returns-in_err-save_block-clause-most
returns-in_err-save_block-clause-most g c =
    let lt = c.loop-test.true in
    let le = stopped_told c.args.memory.now c.end_last.ensures c.requires.closed
    (stops_behind c.loop.invariant.saves c.in_err-save_block.ensures.saves.stopped) (omega (arith, lt)) in
    omega (arith, le, lt)

pub returns-in_err-seal_rest-clause-stopped : goal.returns-in_err-seal_rest-clause-stopped
returns-in_err-seal_rest-clause-stopped g c =
    on_err _ _ (stops_then (goes_then (ended_goes _ c.end_last.ensures (g.met.D.SectorDevice.lawful c.args.device.now) c.requires.memory
    c.requires.closed) (saves_at_most 63 63 (omega arith) (omega arith) c.loop.invariant.saves).goes)
    c.in_err-seal_rest.ensures.stopped)

pub returns-in_err-seal_rest-clause-most : goal.returns-in_err-seal_rest-clause-most
returns-in_err-seal_rest-clause-most g c =
    let le = saved_told (g.D.SectorDevice.state c.seal_rest.new.device) c.args.memory.now c.seal_rest.new.memory c.end_last.ensures
    c.requires.closed c.loop.invariant.saves (omega arith) (omega arith) c.seal_rest.ensures.only.clean c.seal_rest.ensures.told in
    omega (arith, le)

pub returns-clause-done : goal.returns-clause-done
returns-clause-done g c =
    goes_then (goes_then (ended_goes _ c.end_last.ensures (g.met.D.SectorDevice.lawful c.args.device.now) c.requires.memory
    c.requires.closed) (saves_at_most 63 63 (omega arith) (omega arith) c.loop.invariant.saves).goes)
    c.in_ok-seal_rest.ensures.done

pub returns-clause-fewer : goal.returns-clause-fewer
returns-clause-fewer g c =
    let same = ap (λ (t : TableValue). length t.blocks) c.seal_rest.ensures.only.dirty in
    let fewer = c.loop.invariant.early.fewer in
    omega (arith, same, fewer)

pub returns-clause-due : goal.returns-clause-due
returns-clause-due g c =
    chunk_due c.args.memory.now c.loop.memory c.seal_rest.new.memory c.end_last.ensures
    c.seal_rest.ensures.only.dirty c.seal_rest.ensures.only.early c.loop.invariant.early.due

pub returns-clause-capacity : goal.returns-clause-capacity
returns-clause-capacity g c = ap (λ (t : TableValue). t.capacity) c.seal_rest.ensures.only.dirty ∙ c.loop.invariant.capacity

pub returns-clause-taken : goal.returns-clause-taken
returns-clause-taken g c =
    let room = c.loop.invariant.saves.goes.room in
    let before = ap (λ (u : UsageTable). clean_in u.segments) c.end_last.ensures in
    let after = c.seal_rest.ensures.only.clean in
    let one = one_segment c.args.memory.now c.loop.memory c.requires.closed (omega (arith, before, room)) in
    omega (arith, one, after)

pub returns-clause-told : goal.returns-clause-told
returns-clause-told g c =
    saved_told (g.D.SectorDevice.state c.seal_rest.new.device) c.args.memory.now c.seal_rest.new.memory c.end_last.ensures
    c.requires.closed c.loop.invariant.saves (omega arith) (omega arith) c.seal_rest.ensures.only.clean c.seal_rest.ensures.told

pub returns-clause-most : goal.returns-clause-most
returns-clause-most g c = let told = returns-clause-told g c in omega (arith, told)

pub returns-clause-data_blocks : goal.returns-clause-data_blocks
returns-clause-data_blocks g c =
    let same = ap (λ (t : TableValue). data_count t) c.seal_rest.ensures.only.dirty in
    let left = c.loop.invariant.left in
    omega (arith, same, left)
