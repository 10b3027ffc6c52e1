-- The states that a stop may leave: at one moment, and since one.
use Rattle.std.proofs.Common.{◌≡◌, List, ◌⊎◌}
use Rattle.std.specs.List.{Contains}
use Rattle.lfs_model.specs.Content.{Content}
use Rattle.lfs_model.specs.Device.{DeviceState, IsUntouched}
use Rattle.lfs_model.specs.Tree.{State}
use Rattle.lfs_model.specs.TreeOf.{Left, LeavesOne, Stands}
use Rattle.lfs_model.proofs.Volume.{single_state}

-- ---- at one moment

-- where each content that a stop may leave stands for one state, that state is left and no other
pub left_only : (d : DeviceState) (s t : State) → LeavesOne d s → Left d t → t ≡ s
left_only d s t one left = single_state left.content t s left.stands (one left.content left.may_leave)

-- a call that leaves the device as it is leaves no state more
pub left_before : (old new : DeviceState) (s : State) → IsUntouched old new → Left new s → Left old s
left_before old new s same left =
    record { content = left.content; may_leave = same.crash left.content left.may_leave; stands = left.stands }

-- ---- since one

abbrev OneOf : DeviceState → List State → Content → Type 0
OneOf old states c = (s : State) × Stands c s × (Left old s ⊎ Contains states s)
