-- Uses of a volume one after the other before a witness: in each of them what was told is kept from then on. All of it is an own choice.
use Rattle.std.specs.Prelude.{◌≡◌, ◌<◌, ◌++◌, ℕ, Bool, Option, Some, List, [], ◌∷◌, length, map}
use Rattle.lfs_model.specs.Device.{DeviceState, LeavesOnly, Only}
use Rattle.lfs_model.specs.Script.{call_of}
use Rattle.lfs_model.specs.Since.{UsesNoted}
use Rattle.lfs_model.specs.Use.{Continues}
use Rattle.lfs_model.specs.Volume.{LeavesPrefix}
use Rattle.lfs_fs.specs.Mounting.{IsMountFault, IsRefused}
use Rattle.lfs_fs.specs.log.verify.declared.fault.MountFault.{MountFault}
use Rattle.lfs_fs.specs.log.verify.declared.fault.MountFault.TheVariants.{NoMemory}
use Rattle.lfs_script.specs.Series.{Between}
use Rattle.lfs_script.specs.Session.{SessionNoted}
use Rattle.lfs_script.specs.Noted.{Glance}
use Rattle.lfs_script.specs.declared.script.StrictEnd.{StrictEnd}

module _ {D : Type 0} (state : D → DeviceState) (strict : Bool) where
  -- As `UsesOne`, before a witness: a stop at any moment since a reply went out leaves the state behind every call that was acknowledged by
  -- then, or a later one, of this use; and the next begins with what the last of these stops left.
  pub record UsesOneNoted (text : List ℕ) (old new : Between D) (s s' : List Glance) : Type 0 where
    pub end : StrictEnd
    pub rest : Option (List ℕ)
    pub session : SessionNoted strict end (Some text) rest old.written new.written (state old.device) (state new.device) s s'
    pub told : UsesNoted (state old.device) (state new.device) session.script session.answers session.clocks
    pub continues : Continues (state old.device) (state new.device) old.points old.calls old.given told.uses.first told.uses.points
    pub alone : Only (state new.device).content (state new.device)
    pub points : new.points ≡ told.uses.first ∷ told.uses.points
    pub calls : new.calls ≡ map call_of session.script
    pub given : new.given ≡ session.answers

  -- uses one after the other, each of what the stop before it left
  abbrev pub UsesEachNoted : List (List ℕ) → Between D → Between D → List Glance → List Glance → Type 0
  UsesEachNoted [] old new s s' = (new ≡ old) × (s' ≡ s)
  UsesEachNoted (text ∷ texts) old new s s' = (mid : Between D) × (glances : List Glance) × UsesOneNoted text old mid s glances
      × UsesEachNoted texts mid new glances s'

  -- All were used in turn. The last stop left a state that was pending then.
  pub record UsesInTurnNoted (texts : List (List ℕ)) (old : Between D) (w' : Option (List ℕ)) (d' : D) (s s' : List Glance) : Type 0 where
    pub last : Between D
    pub told : UsesEachNoted texts old last s s'
    pub written : last.written ≡ w'
    pub device : last.device ≡ d'
    pub pending : LeavesPrefix (state d') last.points last.calls last.given

  -- After some of them a mount failed, with its reason. What was left before it is still there.
  pub record StopsAtMountNoted (texts : List (List ℕ)) (fault : MountFault) (old : Between D) (w' : Option (List ℕ)) (d' : D)
      (s s' : List Glance) : Type 0 where
    pub done : List (List ℕ)
    pub others : List (List ℕ)
    pub all : done ++ others ≡ texts
    pub some : 0 < length others
    pub last : Between D
    pub told : UsesEachNoted done old last s s'
    pub written : last.written ≡ w'
    pub cause : (fault ≡ NoMemory → ⊥) → IsMountFault (state last.device) (state d') fault
    pub reason : IsRefused (state last.device) (state d') fault
    pub moments : LeavesOnly (state last.device) (state d') (state last.device).may_leave
    pub pending : LeavesPrefix (state d') last.points last.calls last.given
