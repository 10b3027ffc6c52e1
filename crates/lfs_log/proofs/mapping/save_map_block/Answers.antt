use Rattle.std.proofs.Common.{rules, ap, arith}
use Rattle.lfs_memory.specs.inodes.MapValue.{MapValue}
use Rattle.lfs_log.proofs.MapSteps.{drop_goes}
use Rattle.lfs_log.proofs.SavedBlocks.{saving_done, saving_failed, sealed_then, stops_sealing}
use Rattle.lfs_log.proofs.mapping.save_map_block.Goals as goal

pub returns-then-not-encode-clause-saves : goal.returns-then-not-encode-clause-saves
returns-then-not-encode-clause-saves g c =
    saving_done (record {
      goes = drop_goes c.args.memory.now c.args.index c.set_block_address.new.self (record {
        block = c.set_block_address.ensures.changed;
        addresses = ap (λ (a : MapValue). a.addresses) c.set_block_address.ensures.set;
        hidden = ap (λ (a : MapValue). a.hidden) c.set_block_address.ensures.set;
      })
          (search rules) c.requires.memory (g.met.D.SectorDevice.lawful c.args.device.now)
          (λ m t is. c.encode.ensures.dropped m t is (search rules));
      tells = omega arith;
    })

pub returns-in_err-seal_full-clause-saves : goal.returns-in_err-seal_full-clause-saves
returns-in_err-seal_full-clause-saves g c =
    saving_failed _ c.from_residual-in_err-seal_full.ensures
    (stops_sealing c.in_ok-write_map_block.ensures.writes.done c.write_map_block.ensures.writes.tells
    c.in_err-seal_full.ensures.saves.stopped)

pub returns-clause-saves : goal.returns-clause-saves
returns-clause-saves g c =
    saving_done (sealed_then c.in_ok-write_map_block.ensures.writes.done c.write_map_block.ensures.writes.tells
    c.in_ok-seal_full.ensures.saves.done)
