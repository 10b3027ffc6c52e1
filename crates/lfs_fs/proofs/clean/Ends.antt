-- The ends of a clean, as steps of the model.
use Rattle.lfs_fs.proofs.Prelude.{◌≡◌, ◌<◌, ◌≤◌, ◌+◌, ◌/◌, ◌^◌, false, refl, sym, ◌∙◌, inl, inr, arith, Answer, Clean, Done}
use Rattle.lfs_fs.proofs.Prelude.{Refuse, CheckpointValue, DeviceState, IsLawful, Device, Halted, Stuck, Worn, Point, StepsOr, LogMap}
use Rattle.lfs_fs.proofs.Prelude.{LogFault, clean_orders, LogState, Store, HasClean, volume_of, MayNotMakeClean}
use Rattle.lfs_fs.proofs.Prelude.{few_checkpoints, FsError, Fs, error_of_log, refusal_of, seen, IsAt, IsIn, Mounted, Serves, TellsAtMost}
use Rattle.lfs_fs.proofs.Prelude.{segments_of}
use Rattle.lfs_model.specs.Checkpoint.{IsSegmentCount}
use Rattle.lfs_files.specs.declared.fault.LogFault.TheVariants as log
use Rattle.lfs_store.specs.cleaner.Making.{IsCleanFault, once_orders}
use Rattle.lfs_store.proofs.of_cleaner.Onces.{once_within}
use Rattle.lfs_store.specs.cleaner.Making.{MakesClean}
use Rattle.lfs_store.proofs.Acceptings.{room_holds}
use Rattle.lfs_fs.specs.declared.error.FsError.TheVariants as error
use Rattle.lfs_fs.proofs.calls.AnyDevice.{clean_bounded, write_behaves}
use Rattle.lfs_fs.proofs.Prelude.{Err, Ok, Result}
use Rattle.lfs_store.specs.Outcomes.{Reserves}
use Rattle.lfs_fs.proofs.calls.Files.{with_store}
use Rattle.lfs_fs.proofs.calls.Steps.{not_worn}
use Rattle.lfs_fs.proofs.calls.Drafts.{IsRest, counted_still, runs_on}
use Rattle.lfs_fs.proofs.volume.Map.{map_of_volume, runs_over}
use Rattle.lfs_fs.proofs.paths.Steps.{clean_done}
use Rattle.lfs_fs.proofs.clean.Room.{has_room}
use Rattle.lfs_fs.proofs.calls.Exits.{map_dropped, point_of, served_still}
use Rattle.lfs_fs.proofs.write.Ends.{halts_serves, still_none}

module _ {D : Type 0} {state : D → DeviceState} (lawful : (d : D) → IsLawful (state d)) where
  -- one pass gives the device no more than where room is made
  pub once_tells : (old new : LogState D) → IsSegmentCount old.segments
      → TellsAtMost state old new (once_orders old.segments)
      → TellsAtMost state old new (clean_orders old.segments)
  once_tells old new count tells = let within = once_within count in omega (arith, within, tells)

  -- past the last number nothing is cleaned
  pub worn_serves : {v : Mounted D} → v.log.halted ≡ false → {fault : FsError} → fault ≡ error.Worn → 2 ^ 62 ≤ v.log.number
      → Serves state v v Clean (Refuse (refusal_of fault))
  worn_serves {v} was is high = rw is
      (served_still state Clean {a = Refuse Worn} (lawful v.log.device) (still_none state lawful v) was tt (λ p keeps here k m0 m is.
      inr (Worn, refl, ((let q = here.number in omega (arith, q, high)), inl refl), refl))
      (λ e. cc))

  module _ (old new : Mounted D) (was : old.log.halted ≡ false) (rest : IsRest state old new) (low : old.log.number < 2 ^ 62)
      (tells : TellsAtMost state old.log new.log (clean_orders (segments_of old))) where
    -- the log map is as it was, and what isn't saved after it wasn't before
    module _ (room : MakesClean state old.log new.log) where
      ready : new.log.saved ≡ false → (old.log.saved ≡ false → HasClean old.log × (old.log.number ≤ 2 ^ 62 + segments_of old / 8))
          → HasClean new.log × (new.log.number ≤ 2 ^ 62 + segments_of new / 8)
      ready e before =
          let none = room.unsaved e in
          let was = before none.0 in
          let low = was.1 in
          let number = none.1.number in
          let size = room.keeps.segments in
          (none.1.clean was.0, omega (arith, low, number, size))

      ends_by : {a : Answer} → (a ≡ Refuse Halted → ⊥) → (a ≡ Refuse Stuck → ⊥)
          → ((p : Point) → (state new.log.device).keeps_model → IsAt state old p → (k : CheckpointValue) (m0 m : LogMap)
          → IsIn state old k m0 m p.state → StepsOr (segments_of old) Clean p a (point_of state new p.state))
          → Serves state old new Clean a
      ends_by {a} fine none steps =
          runs_on state old new Clean (lawful old.log.device) (lawful new.log.device) room.keeps.carries room.keeps.segments was
          room.keeps.later fine (write_behaves state Clean a refl rest.table none (λ never e. absurd (cc))
          (clean_bounded state old new (let few = room.keeps.number in let most = few_checkpoints old.log in
          omega (arith, few, most)) tells)) room.keeps.running (λ p keeps at k m0 m is. (
          let log = map_dropped state new keeps (lawful old.log.device) (lawful new.log.device) room.keeps.carries is in
          record {
            next = p.state;
            runs = runs_over new k m is p.state (room_holds state room k m keeps is.holds log) room.keeps.segments
                (map_of_volume is) (is.handles ∙ sym rest.table) (counted_still state m rest is.counted) (λ e. ready e is.ready);
            steps = steps p keeps at k m0 m is;
            moment = room.keeps.moment k m0 m keeps is.holds log;
            saves = λ e. absurd (cc);
          }))

      pub clean_done_serves : Serves state old new Clean Done
      clean_done_serves = ends_by (λ e. cc) (λ e. cc) (λ p keeps at k m0 m is.
          inl (clean_done (segments_of old) p.state, not_worn (segments_of old) Clean p (let n = at.number in omega (arith, n, low))))

      -- a call of the device failed
      pub clean_failed_serves : IsCleanFault state old.log new.log → Serves state old new Clean (Refuse Device)
      clean_failed_serves failed = ends_by (λ e. cc) (λ e. cc) (λ p keeps at k m0 m is.
          let rose = failed k m0 m keeps is.holds
          (map_dropped state new keeps (lawful old.log.device) (lawful new.log.device) room.keeps.carries is) in
          inr (Device, refl, (refl, (let f = at.failures in omega (arith, f, rose))), refl))

      -- there is room where the device keeps the model
      pub clean_full_serves : MayNotMakeClean state old.log new.log → Serves state old new Clean (Refuse Device)
      clean_full_serves cannot = ends_by (λ e. cc) (λ e. cc) (λ p keeps at k m0 m is.
          absurd (cannot k m0 m keeps (has_room (lawful old.log.device) low k m0 m is)))

  -- ---- the call
  module _ (old : Fs D) (store : Store D) (was : (seen old).log.halted ≡ false) {result : Result (Unit {0}) LogFault}
      (made : Reserves state old.store store result) (low : (seen old).log.number < 2 ^ 62)
      (tells : TellsAtMost state (seen old).log (volume_of store) (clean_orders (segments_of (seen old)))) where
    abbrev new : Fs D
    new = with_store old store

    rest : IsRest state (seen old) (seen new)
    rest = record { totals = made.keeps.totals; table = refl }

    pub cleaned_serves : result ≡ Ok tt → Serves state (seen old) (seen new) Clean Done
    cleaned_serves is = clean_done_serves (seen old) (seen new) was rest low tells (rw is at made.done)

    pub clean_fails : {fault : LogFault} → result ≡ Err fault
        → Serves state (seen old) (seen new) Clean (Refuse (refusal_of (error_of_log fault)))
    clean_fails {fault = log.Full} is =
        let lacks = made.full is in clean_full_serves (seen old) (seen new) was rest low tells lacks.makes lacks.never
    clean_fails {fault = log.Device} is =
        let fails = made.device is in clean_failed_serves (seen old) (seen new) was rest low tells fails.makes fails.fault
    clean_fails {fault = log.Halted} is =
        halts_serves state lawful (seen old) Clean was refl refl (few_checkpoints (seen old).log)
        (λ few. clean_bounded state (seen old) (seen new) few tells) (made.halted is (λ halted. cc))
