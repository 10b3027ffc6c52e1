use Rattle.std.proofs.Common.{rules, refl, ◌≡◌}
use Rattle.lfs_cleaner.proofs.of_log.of_memory.Going.{ok_then}
use Rattle.lfs_store.proofs.Befores.{finds_ready}
use Rattle.lfs_store.proofs.store.Store.clean_before_change.Goals as goal

pub returns-clause-makes : goal.returns-clause-makes
returns-clause-makes g c = record {
  keeps = record { draft = refl; totals = c.clean_before_change.ensures.totals; drafted = refl };
  done = c.clean_before_change.ensures.makes;
  full = λ e. absurd (c.clean_before_change.ensures.full e);
  device = λ e. absurd (c.clean_before_change.ensures.device e);
  halted = λ e ne. c.clean_before_change.ensures.halted e;
}

pub returns-clause-ready : goal.returns-clause-ready
returns-clause-ready g c =
    ok_then c.clean_before_change.result _ _ (finds_ready (g.met.D.SectorDevice.lawful _)) c.clean_before_change.ensures.ready
