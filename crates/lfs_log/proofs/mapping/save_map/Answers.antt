use Rattle.std.proofs.Common.{◌∙◌, ⊎_elim, refl, sym, arith}
use Rattle.lfs_log.proofs.mapping.save_map.Goals as goal
use Rattle.lfs_log.proofs.MapSteps.{maps_out}
use Rattle.lfs_log.proofs.SavedBlocks.{saves_at_most, saves_none, saves_then, saving_at_most, saving_done, saving_failed, stops_behind}
use Rattle.std.proofs.lemmas.Bool.{cases_eq}

-- src/mapping.rt:95:5
pub loop-index-init : goal.loop-index-init
loop-index-init g c = record {
  saves = saves_none (g.met.D.SectorDevice.lawful c.args.device.now) c.requires.memory;
  known = λ j lt. absurd (omega (arith, lt));
  long = λ some. absurd (omega (arith, some));
  dirty = refl;
}

pub returns-in_err-save_map_block-clause-saves : goal.returns-in_err-save_map_block-clause-saves
returns-in_err-save_map_block-clause-saves g c =
    let lt = c.loop-index-test.true in
    saving_failed _ c.from_residual.ensures (saving_at_most _ _ (omega (arith, lt)) (omega (arith, lt))
    (stops_behind c.loop-index.invariant.saves c.in_err-save_map_block.ensures.saves.stopped))

-- src/mapping.rt:95:5
pub loop-index-preserved : goal.loop-index-preserved
loop-index-preserved g c = record {
  saves = saves_then c.loop-index.invariant.saves c.in_ok-save_map_block.ensures.saves.done;
  known = λ j lt one. ⊎_elim
      (λ is. c.in_ok-save_map_block.ensures.known (rw (← is) one))
      (λ ne. c.loop-index.invariant.known j (omega (arith, lt, ne)) (sym (c.in_ok-save_map_block.ensures.others j ne) ∙ one))
      (cases_eq j c.loop-index.index);
  long = λ some. c.in_ok-save_map_block.ensures.long;
  dirty = c.in_ok-save_map_block.ensures.dirty ∙ c.loop-index.invariant.dirty;
}

-- src/mapping.rt:81:1
pub returns-clause-known : goal.returns-clause-known
returns-clause-known g c =
    maps_out (c.loop-index.invariant.long (omega arith))
    (λ j lt. c.loop-index.invariant.known j (omega (arith, lt)))

pub returns-clause-saves : goal.returns-clause-saves
returns-clause-saves g c = saving_done (saves_at_most _ _ (omega arith) (omega arith) c.loop-index.invariant.saves)
