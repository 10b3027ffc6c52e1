use Rattle.lfs_cleaner.proofs.of_log.of_memory.Going.{ok_then}
use Rattle.lfs_cleaner.proofs.CleanBounds.{halts_first}
use Rattle.lfs_store.proofs.Acceptings.{readies_none}
use Rattle.lfs_store.proofs.EarlyRoom.{readies_then}
use Rattle.lfs_store.proofs.Endings.{exit_is, made_committed, made_none, made_ready, made_then}
use Rattle.lfs_store.proofs.store.Store.prepare_commit.Goals as goal

pub returns-then-has_room-clause-makes : goal.returns-then-has_room-clause-makes
returns-then-has_room-clause-makes g c =
    made_none (g.met.D.SectorDevice.lawful _) c.requires

pub returns-then-has_room-clause-ready : goal.returns-then-has_room-clause-ready
returns-then-has_room-clause-ready g c =
    readies_none (g.met.D.SectorDevice.lawful _) c.requires

pub returns-in_err-write_early-clause-makes : goal.returns-in_err-write_early-clause-makes
returns-in_err-write_early-clause-makes g c =
    rw (exit_is c.from_residual.ensures) (record {
      keeps = c.write_early.ensures.keeps;
      done = tt;
      full = λ e. absurd (c.in_err-write_early.ensures.full e);
      device = λ e. absurd (c.in_err-write_early.ensures.other e);
      halted = λ e ne. halts_first _ {a = c.args.self.now.log} {b = c.write_early.new.self.log} (c.in_err-write_early.ensures.halted e);
    })

pub returns-then-has_room-2-clause-makes : goal.returns-then-has_room-2-clause-makes
returns-then-has_room-2-clause-makes g c =
    made_ready c.write_early.ensures.keeps c.in_ok-write_early.ensures.done

pub returns-clause-makes : goal.returns-clause-makes
returns-clause-makes g c =
    made_then c.write_early.ensures.keeps c.in_ok-write_early.ensures.done
    (made_committed _ (g.met.D.SectorDevice.lawful _) c.in_ok-write_early.ensures.early.running c.commit.ensures)

pub returns-clause-ready : goal.returns-clause-ready
returns-clause-ready g c =
    ok_then c.commit.result _ _
    (λ ready.
    readies_then _ c.in_ok-write_early.ensures.done ready) c.commit.ensures.ready
