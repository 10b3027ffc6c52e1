-- Laws of uses of a volume: how the first one begins, and what answers there are where no call of the device failed.
-- They follow from the definitions; which of them are stated is an own choice.
use Rattle.std.specs.Prelude.{◌≡◌, ◌⊎◌, ◌<◌, ◌^◌, ℕ, false, List, [], ◌∷◌, Some}
use Rattle.lfs_model.specs.Call.{Answer, Call, Refuse, takes_no_memory}
use Rattle.lfs_model.specs.Checkpoint.{CheckpointValue}
use Rattle.lfs_model.specs.Content.{newest}
use Rattle.lfs_model.specs.Device.{DeviceState, Only}
use Rattle.lfs_model.specs.Image.{IsNew}
use Rattle.lfs_model.specs.Refusal.{NoMemory}
use Rattle.lfs_model.specs.Run.{Point, RunOf}
use Rattle.lfs_model.specs.Script.{Line, call_of}
use Rattle.lfs_model.specs.Step.{Step}
use Rattle.lfs_model.specs.Tree.{Dir, new_form}
use Rattle.lfs_model.specs.Use.{UsesVolume}
use Rattle.lfs_model.specs.Volume.{LeavesPrefix, mounted}

-- ---- the first use

-- what a new volume of a version is: an empty root, and checkpoint 1
abbrev pub new_point : ℕ → DeviceState → Point
new_point version d = record {
  state = mounted version ((1, Dir (new_form version) []) ∷ []);
  halted = false;
  number = 1;
  failures = d.failures;
  failed_orders = d.failed_orders;
}

-- A use of a new volume of N segments begins there.
abbrev pub BeginsNew : ℕ → ℕ → ℕ → DeviceState → DeviceState → Type 0
BeginsNew version N p d d' = IsNew version N p d.content → (lines : List Line) (answers : List Answer) (u : UsesVolume d d' lines answers)
    → (u.segments ≡ N) × (u.first.number ≡ 1) × (u.first.state ≡ (new_point version d).state)

-- Where a stop leaves the new volume alone, that is the one state that is pending after no call.
abbrev pub NewIsPending : ℕ → ℕ → ℕ → DeviceState → Type 0
NewIsPending version N p d = IsNew version N p d.content → Only d.content d → LeavesPrefix d (new_point version d ∷ []) [] []

-- ---- answers

-- the model's answer; or a refusal for want of memory, which changes nothing
abbrev pub PlainAnswers : ℕ → Call → Point → Answer → Point → Type 0
PlainAnswers N call old answer new = Step N old.state call answer new.state
    ⊎ ((answer ≡ Refuse NoMemory) × (takes_no_memory call ≡ false) × (new.state ≡ old.state))

abbrev pub PlainRun : ℕ → Point → List Line → List Answer → List Point → Type 0
PlainRun N = RunOf (λ line. PlainAnswers N (call_of line))

-- Where no call of the device failed and the checkpoint's number is below 2^62, no other answer is given: so neither Halted nor Device nor
-- Stuck nor Worn, and NoSpace only where the tree after the call needs more than the volume's segments have.
abbrev pub UsesArePlain : DeviceState → DeviceState → Type 0
UsesArePlain d d' = d'.keeps_model → d'.failures ≡ d.failures → (k : CheckpointValue) → newest d'.content ≡ Some k → k.number < 2 ^ 62
    → (lines : List Line) (answers : List Answer) (u : UsesVolume d d' lines answers) → PlainRun u.segments u.first lines answers u.points
