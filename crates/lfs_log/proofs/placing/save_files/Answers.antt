use Rattle.std.proofs.Common.{refl, ◌∙◌, arith}
use Rattle.lfs_log.proofs.placing.save_files.Goals as goal
use Rattle.lfs_memory.proofs.Going.{holds_volume_still}
use Rattle.lfs_log.proofs.SavedBlocks.{saves_at_most, saves_none, saves_then, saving_at_most, saving_done, saving_failed, stops_behind}

-- src/placing.rt:103:5
pub loop-key-init : goal.loop-key-init
loop-key-init g c = record {
  saves = saves_at_most _ _ (omega arith) (omega arith) (saves_none {v = c.args.memory.now}
      (g.met.D.SectorDevice.lawful c.args.device.now) c.requires.memory);
  capacity = refl;
  fewer = omega arith;
}

-- src/placing.rt:104:9
pub save_block-requires-clause-memory : goal.save_block-requires-clause-memory
save_block-requires-clause-memory g c = c.loop-key.invariant.saves.goes.memory

-- src/placing.rt:104:9
pub save_block-requires-clause-size : goal.save_block-requires-clause-size
save_block-requires-clause-size g c =
    holds_volume_still c.loop-key.invariant.saves.goes c.requires.size

-- src/placing.rt:104:9
pub save_block-requires-clause-room : goal.save_block-requires-clause-room
save_block-requires-clause-room g c =
    let some = c.in-Some.ensures.first.within in
    let room = c.loop-key.invariant.saves.goes.room in
    let all = c.requires.room in
    let fewer = c.loop-key.invariant.fewer in
    omega (arith, some, room, all, fewer)

-- src/placing.rt:103:5
pub loop-key-smaller : goal.loop-key-smaller
loop-key-smaller g c = let one = c.in_ok-save_block.ensures.fewer in omega (arith, one)

-- src/placing.rt:103:5
pub loop-key-preserved : goal.loop-key-preserved
loop-key-preserved g c =
    let one = c.in_ok-save_block.ensures.fewer in
    let fewer = c.loop-key.invariant.fewer in
    record {
      saves = saves_at_most _ _ (omega (arith, one, fewer)) (omega (arith, one, fewer))
          (saves_then c.loop-key.invariant.saves c.in_ok-save_block.ensures.saves.done);
      capacity = c.in_ok-save_block.ensures.capacity ∙ c.loop-key.invariant.capacity;
      fewer = omega (arith, one, fewer);
    }

pub returns-in_err-save_block-clause-saves : goal.returns-in_err-save_block-clause-saves
returns-in_err-save_block-clause-saves g c =
    let some = c.in-Some.ensures.first.within in
    saving_failed _ c.from_residual.ensures (saving_at_most _ _ (omega (arith, some)) (omega (arith, some))
    (stops_behind c.loop-key.invariant.saves c.in_err-save_block.ensures.saves.stopped))

pub returns-clause-saves : goal.returns-clause-saves
returns-clause-saves g c = saving_done (saves_at_most _ _ (omega arith) (omega arith) c.loop-key.invariant.saves)
