-- What a command does that runs a script on a device. The command line is an own choice.
use Rattle.std.specs.Prelude.{◌≡◌, ◌⊎◌, ℕ, Bool, true, false, Option, List, Result}
use Rattle.std.specs.Io.KnownBytes.{Keeps}
use Rattle.lfs_model.specs.Device.{AllLeft, DeviceState}
use Rattle.lfs_fs.specs.Mounting.{IsRefused}
use Rattle.lfs_fs.specs.log.verify.declared.fault.MountFault.{MountFault}
use Rattle.lfs_script.specs.Saved.{SessionSaved}
use Rattle.lfs_script.specs.Session.{SessionNoted}
use Rattle.lfs_script.specs.Noted.{Glance}
use Rattle.lfs_script.specs.declared.script.StrictEnd.{StrictEnd}
use Rattle.lfs_script.specs.declared.script.StrictEnd.TheVariants.{Refused}
use Rattle.lfs_host.specs.declared.fault.Ending.{Ending}
use Rattle.lfs_host.specs.declared.fault.Fault.{Fault}
use Rattle.lfs_host.specs.declared.fault.Outcome.{Outcome}
use Rattle.lfs_command.specs.Telling.{IsToldPlainly, IsToldStrictly, IsToldUnmounted, outcome_of}

-- A use of the device's volume before a witness, whose replies were printed, and whose end is told.
pub record IsPlayed (told : Result Ending Fault) (r r' w w' : Option (List ℕ)) (d d' : DeviceState) (s s' : List Glance) : Type 0 where
  pub end : StrictEnd
  pub printed : Option (List ℕ)
  pub session : SessionNoted false end r r' w printed d d' s s'
  pub kept : Keeps printed w'
  pub is_told : IsToldPlainly end told

-- The volume wasn't mounted, with a reason: nothing was read, and a stop leaves what it might have left before.
pub record IsUnmounted (r r' : Option (List ℕ)) (d d' : DeviceState) : Type 0 where
  pub fault : MountFault
  pub reason : IsRefused d d' fault
  pub unread : r' ≡ r
  pub left : AllLeft d' d.may_leave

-- by how it is told: there was such a use; or no mount, and its refusal is told
abbrev pub Plays : Result Ending Fault → Option (List ℕ) → Option (List ℕ) → Option (List ℕ) → Option (List ℕ) → DeviceState → DeviceState
    → List Glance → List Glance → Type 0
Plays told r r' w w' d d' s s' = IsPlayed told r r' w w' d d' s s'
    ⊎ ((unmounted : IsUnmounted r r' d d') × IsToldUnmounted unmounted.fault told)

-- A use of the device's volume by a strict script, whose replies were printed.
pub record IsPlayedStrictly (end : StrictEnd) (r r' w w' : Option (List ℕ)) (d d' : DeviceState) (s s' : List Glance) : Type 0 where
  pub printed : Option (List ℕ)
  pub session : SessionNoted true end r r' w printed d d' s s'
  pub kept : Keeps printed w'

-- and it ended at a refusal
abbrev pub PlaysToRefusal : Option (List ℕ) → Option (List ℕ) → Option (List ℕ) → Option (List ℕ) → DeviceState → DeviceState → List Glance
    → List Glance → Type 0
PlaysToRefusal = IsPlayedStrictly Refused

-- by how it is told: there was such a use, and its end is told; or no mount, and its refusal is told
abbrev pub PlaysStrictly : Result Outcome Fault → Option (List ℕ) → Option (List ℕ) → Option (List ℕ) → Option (List ℕ) → DeviceState
    → DeviceState → List Glance → List Glance → Type 0
PlaysStrictly told r r' w w' d d' s s' = ((end : StrictEnd) × IsPlayedStrictly end r r' w w' d d' s s' × IsToldStrictly end told)
    ⊎ ((unmounted : IsUnmounted r r' d d')
    × (ended : Result Ending Fault) × IsToldUnmounted unmounted.fault ended × (told ≡ outcome_of ended))

-- What is told of it, whether all is saved at the end of the use; where there was no mount nothing is said by that.
abbrev pub TellsSaved : Bool → Bool → Option (List ℕ) → Option (List ℕ) → Option (List ℕ) → DeviceState → DeviceState → List Glance
    → List Glance → Type 0
TellsSaved is_saved strict r r' w d d' s s' = ((end : StrictEnd) × (printed : Option (List ℕ))
    × SessionSaved is_saved strict end r r' w printed d d' s s') ⊎ IsUnmounted r r' d d'
