-- Uses of a volume one after the other, each on what the stop before it left. All of it is an own choice.
use Rattle.std.specs.Prelude.{◌≡◌, ◌<◌, ◌++◌, ℕ, Option, Some, List, [], ◌∷◌, length, map}
use Rattle.lfs_model.specs.Call.{Answer, Call}
use Rattle.lfs_model.specs.Device.{DeviceState, LeavesOnly, Only}
use Rattle.lfs_model.specs.Run.{Point}
use Rattle.lfs_model.specs.Script.{call_of}
use Rattle.lfs_model.specs.Use.{Continues, UsesVolume}
use Rattle.lfs_model.specs.Volume.{LeavesPrefix}
use Rattle.lfs_fs.specs.Mounting.{IsMountFault, IsRefused}
use Rattle.lfs_fs.specs.log.verify.declared.fault.MountFault.{MountFault}
use Rattle.lfs_fs.specs.log.verify.declared.fault.MountFault.TheVariants.{NoMemory}
use Rattle.lfs_script.specs.Session.{Session}
use Rattle.lfs_script.specs.declared.script.ScriptEnd.{ScriptEnd}
use Rattle.lfs_script.specs.declared.session.StoppedScript.{StoppedScript}

-- What there is between two uses: what is written so far, the device, and the run before.
pub record Between (D : Type 0) : Type 0 where
  pub written : Option (List ℕ)
  pub device : D
  pub points : List Point
  pub calls : List Call
  pub given : List Answer

abbrev pub texts_of : List StoppedScript → List (List ℕ)
texts_of = map (λ s. s.script.items)

module _ {D : Type 0} (state : D → DeviceState) where
  -- Where the device keeps its model: whatever run before left what stands on it now, P holds of what there is between that and the next.
  abbrev pub FromAny : Option (List ℕ) → D → (Between D → Type 0) → Type 0
  FromAny written device P = (state device).keeps_model → (before : List Point) (calls : List Call) (given : List Answer)
      → LeavesPrefix (state device) before calls given
      → P (record { written = written; device = device; points = before; calls = calls; given = given })

  -- A use by a script of this text, up to a stop that leaves one content.
  -- It goes on after the run before, and the next goes on after its own.
  pub record UsesOne (text : List ℕ) (old new : Between D) : Type 0 where
    pub end : ScriptEnd
    pub rest : Option (List ℕ)
    pub session : Session end (Some text) rest old.written new.written (state old.device) (state new.device)
    pub uses : UsesVolume (state old.device) (state new.device) session.script session.answers
    pub continues : Continues (state old.device) (state new.device) old.points old.calls old.given uses.first uses.points
    pub alone : Only (state new.device).content (state new.device)
    pub points : new.points ≡ uses.first ∷ uses.points
    pub calls : new.calls ≡ map call_of session.script
    pub given : new.given ≡ session.answers

  -- uses one after the other, each of what the stop before it left
  abbrev pub UsesEach : List (List ℕ) → Between D → Between D → Type 0
  UsesEach [] old new = new ≡ old
  UsesEach (text ∷ texts) old new = (mid : Between D) × UsesOne text old mid × UsesEach texts mid new

  -- All were used in turn. The last stop left a state that was pending then.
  pub record UsesInTurn (texts : List (List ℕ)) (old : Between D) (w' : Option (List ℕ)) (d' : D) : Type 0 where
    pub last : Between D
    pub uses : UsesEach texts old last
    pub written : last.written ≡ w'
    pub device : last.device ≡ d'
    pub pending : LeavesPrefix (state d') last.points last.calls last.given

  -- After some of them a mount failed, with its reason. What was left before it is still there.
  pub record StopsAtMount (texts : List (List ℕ)) (fault : MountFault) (old : Between D) (w' : Option (List ℕ)) (d' : D) : Type 0 where
    pub done : List (List ℕ)
    pub others : List (List ℕ)
    pub all : done ++ others ≡ texts
    pub some : 0 < length others
    pub last : Between D
    pub uses : UsesEach done old last
    pub written : last.written ≡ w'
    pub cause : (fault ≡ NoMemory → ⊥) → IsMountFault (state last.device) (state d') fault
    pub reason : IsRefused (state last.device) (state d') fault
    pub moments : LeavesOnly (state last.device) (state d') (state last.device).may_leave
    pub pending : LeavesPrefix (state d') last.points last.calls last.given
