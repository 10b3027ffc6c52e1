use Rattle.std.proofs.Common.{◌≡◌, true, false, refl}
use Rattle.lfs_cleaner.proofs.of_log.of_memory.Going.{ok_then}
use Rattle.lfs_store.proofs.Acceptings.{readies_none}
use Rattle.lfs_store.proofs.EarlyRoom.{early_none, readies_early}
use Rattle.lfs_store.proofs.Endings.{keeps_none}
use Rattle.lfs_store.proofs.store.Store.write_early.Goals as goal

pub returns-then-is_saved-clause-done : goal.returns-then-is_saved-clause-done
returns-then-is_saved-clause-done g c =
    readies_none (g.met.D.SectorDevice.lawful _) c.requires

pub returns-then-is_saved-clause-early : goal.returns-then-is_saved-clause-early
returns-then-is_saved-clause-early g c =
    early_none _ (g.met.D.SectorDevice.lawful _) c.requires

pub returns-then-is_saved-clause-keeps : goal.returns-then-is_saved-clause-keeps
returns-then-is_saved-clause-keeps g c = keeps_none

pub returns-clause-done : goal.returns-clause-done
returns-clause-done g c =
    ok_then c.write_early.result _ _
    (λ early. readies_early _ early c.write_early.ensures.totals) c.write_early.ensures.done

pub returns-clause-same : goal.returns-clause-same
returns-clause-same g c = ok_then c.write_early.result _ _ (λ early. early.saved) c.write_early.ensures.done

pub returns-clause-keeps : goal.returns-clause-keeps
returns-clause-keeps g c = record { draft = refl; totals = c.write_early.ensures.totals; drafted = refl }

pub returns-clause-halted : goal.returns-clause-halted
returns-clause-halted g c is =
    let running : c.args.self.now.log.halted ≡ false = c.requires in
    c.write_early.ensures.halted is (λ (t : c.args.self.now.log.halted ≡ true). absurd (cc))
