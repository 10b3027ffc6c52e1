-- The ends of a sync, as steps of the model.
use Rattle.lfs_fs.proofs.Prelude.{◌≡◌, true, false, refl, sym, ap, subst, arith, Done, Refuse, Sync, DeviceState, IsLawful, LogFault}
use Rattle.lfs_fs.proofs.Prelude.{Store, volume_of, Fs, error_of_log, refusal_of, seen, Serves}
use Rattle.lfs_files.specs.declared.fault.LogFault.TheVariants as log
use Rattle.lfs_store.proofs.of_cleaner.CleanEnds.{halts_at_once}
use Rattle.lfs_fs.proofs.calls.AnyDevice.{sync_bounded}
use Rattle.lfs_fs.proofs.save.Declined.{sync_serves}
use Rattle.lfs_fs.proofs.Prelude.{Device, Err, LogState, Ok, Result}
use Rattle.lfs_store.specs.Outcomes.{Committed}
use Rattle.lfs_fs.specs.Volume.{TellsNothing}
use Rattle.lfs_fs.proofs.calls.Files.{with_store}
use Rattle.lfs_fs.proofs.save.Room.{full_serves}
use Rattle.lfs_fs.proofs.write.Ends.{halts_serves}

pub not_halted : {D : Type 0} (f : Fs D) → (seen f).log.halted ≡ false → (seen f).log.halted ≡ true → ⊥
not_halted f was halted = cc

module _ {D : Type 0} {state : D → DeviceState} (lawful : (d : D) → IsLawful (state d)) (old : Fs D) (store : Store D)
    (was : (seen old).log.halted ≡ false) {result : Result (Unit {0}) LogFault} (ends : Committed state old.store store result) where
  abbrev new : Fs D
  new = with_store old store

  -- nothing is told where all is saved
  none : (seen old).log.saved ≡ true → TellsNothing state (seen old).log (seen new).log
  none all = ap (λ (h : LogState D). (state h.device).told) (ends.quiet all)

  pub sync_done_serves : result ≡ Ok tt → Serves state (seen old) (seen new) Sync Done
  sync_done_serves is = sync_serves state (seen old) (seen new) (lawful (seen old).log.device) (lawful (volume_of store).device)
      (record { totals = ends.keeps.totals; table = refl }) (rw is at ends.done) ends.told none

  pub sync_fails : {fault : LogFault} → result ≡ Err fault
      → Serves state (seen old) (seen new) Sync (Refuse (refusal_of (error_of_log fault)))
  sync_fails {fault = log.Full} is =
      subst (λ (h : LogState D). Serves state (seen old) (record { log = h; table = old.handles }) Sync (Refuse Device))
      (sym (ends.full is).0) (full_serves state (seen old) (lawful (seen old).log.device) was (ends.unsaved is) (ends.full is).1)
  sync_fails {fault = log.Halted} is = halts_serves state lawful (seen old) {new = seen new} Sync was refl refl (omega arith)
      (λ few. sync_bounded state (seen old) (seen new) few ends.told none)
      (halts_at_once state (seen old).log (volume_of store) (ends.halted is (not_halted old was)))
  sync_fails {fault = log.Device} is = absurd (ends.other is)
