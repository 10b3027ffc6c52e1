-- What a mount gives, and why it gives none.
use Rattle.std.specs.Prelude.{◌≡◌, ◌≤◌, ◌*◌, true, Some, Result, IfOk, IfErr, MatchResult}
use Rattle.lfs_model.specs.Checkpoint.{CheckpointValue, unit_sectors}
use Rattle.lfs_model.specs.Content.{newest}
use Rattle.lfs_model.specs.Device.{DeviceState, LieWithin, Only, IsUntouched, Carries, LeavesOnly}
use Rattle.lfs_model.specs.UnitLaws.{unit_by}
use Rattle.lfs_memory.specs.segments.Early.{AreUntaken}
use Rattle.lfs_verify.specs.declared.fault.MountFault.{MountFault}
use Rattle.lfs_verify.specs.declared.fault.MountFault.TheVariants as fault
use Rattle.lfs_verify.specs.Faults.{IsOpenFault}
use Rattle.lfs_verify.specs.Verified.{HasLogMap, IsRefusedLog}
use Rattle.lfs_log.specs.LogState.{LogState, Mounts, AreAllSaved}
use Rattle.lfs_log.specs.Opening.{CountsOpened}

-- the device's units lie within those of the volume that its newest checkpoint names
abbrev pub HasWholeUnits : DeviceState → Type 0
HasWholeUnits d = (k : CheckpointValue) → newest d.content ≡ Some k → LieWithin d.unit (unit_by (unit_sectors k))

module _ {D : Type 0} (state : D → DeviceState) (d : D) where
  -- The log of a volume that is mounted: it holds the log map that the device stands for, all of it saved, and knows its totals.
  pub record OpenedLog (h : LogState D) : Type 0 where
    pub holds : Mounts state d h
    pub counts : CountsOpened (state d) (state h.device) h.totals
    pub saved : h.saved ≡ true
    pub empty : AreAllSaved h
    pub untaken : (state h.device).keeps_model → AreUntaken h.usage
    pub many : (state h.device).keeps_model → h.segments ≤ 8 * h.clean

  -- A mount, which writes nothing: the log, or why the device holds none.
  pub record OpensLog (result : Result (LogState D) (MountFault × D)) : Type 0 where
    pub opened : IfOk result (λ log. OpenedLog log)
    pub found : IfOk result (λ log. HasLogMap (state d) (state log.device))
    pub durable : IfOk result (λ log. (state log.device).keeps_model → Only (state d).content (state log.device))
    pub cause : IfErr result (λ e. (e.0 ≡ fault.NoMemory → ⊥) → IsOpenFault (state d) (state e.1) e.0)
    pub reason : IfErr result (λ e. IsRefusedLog (state d) (state e.1) e.0)
    pub untouched : MatchResult result (λ log. IsUntouched (state d) (state log.device)) (λ e. IsUntouched (state d) (state e.1))
    pub carries : MatchResult result (λ log. Carries (state d) (state log.device)) (λ e. Carries (state d) (state e.1))
    pub any_moment : MatchResult result (λ log. LeavesOnly (state d) (state log.device) (state d).may_leave)
        (λ e. LeavesOnly (state d) (state e.1) (state d).may_leave)
