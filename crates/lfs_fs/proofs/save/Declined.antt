-- A sync that is done, and drafts that were to be staged and weren't, as steps of the model.
use Rattle.lfs_fs.proofs.Prelude.{◌≡◌, ◌≤◌, ◌^◌, ◌<◌, ◌+◌, ◌/◌, ℕ, Bool, true, false, refl, inl, inr, cond, arith, Call, Done}
use Rattle.lfs_fs.proofs.Prelude.{Refuse, Sync, changes, takes_no_memory, never_for_device, DeviceState, IsLawful, Device, commit_orders}
use Rattle.lfs_fs.proofs.Prelude.{Commits, Declines, IsAcceptFault, Draft, CommitsFew, Mounted, Serves, TellsAtMost, segments_of}
use Rattle.lfs_model.specs.Refusal.{NoMemory}
use Rattle.lfs_store.specs.StoreState.{Fits}
use Rattle.lfs_fs.specs.Volume.{TellsNothing}
use Rattle.lfs_fs.proofs.calls.AnyDevice.{IsBounded, change_writes, not_both, sync_bounded, write_behaves}
use Rattle.lfs_fs.proofs.calls.Steps.{never_worn}
use Rattle.lfs_fs.proofs.calls.Drafts.{InEach, IsRest, commits_by, declines_by}
use Rattle.lfs_fs.proofs.paths.Steps.{sync_done}
use Rattle.lfs_fs.proofs.calls.Exits.{map_dropped}

-- ---- sync

module _ {D : Type 0} (state : D → DeviceState) (old new : Mounted D) (lawful : IsLawful (state old.log.device))
    (after : IsLawful (state new.log.device)) where
  pub sync_serves : IsRest state old new → Commits state old.log new.log
      → TellsAtMost state old.log new.log commit_orders → (old.log.saved ≡ true → TellsNothing state old.log new.log)
      → Serves state old new Sync Done
  sync_serves rest done tells none =
      commits_by state old new Sync lawful after done.carries done.segments done.was_running later rest done Done (λ e. cc)
      (write_behaves state Sync Done refl rest.table (λ e. cc) (λ takes e. absurd (cc)) (sync_bounded state old new few tells none))
      (λ p keeps at. inl (sync_done (segments_of old) p.state, never_worn (segments_of old) Sync p refl refl))
    where
      one_more : (b : Bool) (n : ℕ) → n ≤ cond b n (n + 1)
      one_more true n = omega arith
      one_more false n = omega arith

      later : old.log.number ≤ new.log.number
      later = rw done.number (one_more old.log.saved old.log.number)

      one_most : (b : Bool) (n k : ℕ) → cond b n (n + 1) ≤ n + k + 1
      one_most true n k = omega arith
      one_most false n k = omega arith

      few : CommitsFew old new
      few = rw done.number (one_most old.log.saved old.log.number (segments_of old / 8))

-- ---- drafts

module _ {D : Type 0} {state : D → DeviceState} (old : Mounted D) {new : Mounted D} {call : Call} (lawful : IsLawful (state old.log.device))
    (after : IsLawful (state new.log.device)) (was : old.log.halted ≡ false)
    (later : old.log.number ≤ new.log.number) (d : Draft) (rest : IsRest state old new) (declines : Declines state old.log
    new.log d) (low : old.log.number < 2 ^ 62) (fits : InEach state old (λ m s. Fits d m))
    (bounded : IsBounded state old new call) where
  -- memory has no room
  pub no_room_serves : changes call ≡ true → takes_no_memory call ≡ false → Serves state old new call (Refuse NoMemory)
  no_room_serves change takes =
      declines_by state old new call lawful after declines.carries declines.segments was later d rest declines low (λ e. cc)
      (write_behaves state call (Refuse NoMemory) (change_writes call change) rest.table (λ e. cc)
      (λ never e. absurd (not_both never takes)) bounded) (λ p keeps at k m0 m is.
      (fits k m0 m p.state (declines.carries.kept_before keeps) is, inr (NoMemory, refl, takes, refl)))

  -- a call of the device failed
  pub accept_fault_serves : changes call ≡ true → never_for_device call ≡ false → IsAcceptFault state old.log new.log d
      → Serves state old new call (Refuse Device)
  accept_fault_serves change free fault =
      declines_by state old new call lawful after declines.carries declines.segments was later d rest declines low (λ e. cc)
      (write_behaves state call (Refuse Device) (change_writes call change) rest.table (λ e. cc) (λ never e. absurd (cc)) bounded)
      (λ p keeps at k m0 m is. (
      let fit = fits k m0 m p.state (declines.carries.kept_before keeps) is in
      let rose = fault k m0 m keeps is.holds fit (map_dropped state new keeps lawful after declines.carries is) in
      (fit, inr (Device, refl, (free, (let f = at.failures in omega (arith, f, rose))), refl))))
