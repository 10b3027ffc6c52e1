-- Calls of a volume with their answers, one after the other.
use Rattle.std.specs.Prelude.{◌≡◌, List, [], ◌∷◌}
use Rattle.std.specs.List.{AllByRecursion}
use Rattle.lfs_model.specs.Call.{Answer, Call, LstatOf, StatOf}
use Rattle.lfs_model.specs.Device.{DeviceState}
use Rattle.lfs_fs.specs.Volume.{Mounted, Serves}

-- a call and its answer
pub record Made : Type 0 where
  pub call : Call
  pub answer : Answer

abbrev pub made : Call → Answer → Made
made call answer = record { call = call; answer = answer }

-- a call that tells what stands at a path
abbrev pub IsLook : Call → Type 0
IsLook (LstatOf path) = Unit {0}
IsLook (StatOf path) = Unit {0}
IsLook _ = ⊥

-- each of these calls only tells what stands at a path
abbrev pub AreLooks : List Made → Type 0
AreLooks = AllByRecursion (λ (m : Made). IsLook m.call)

module _ {D : Type 0} (state : D → DeviceState) where
  -- a volume serves these calls, one after the other, with these answers
  abbrev pub ServesAll : Mounted D → Mounted D → List Made → Type 0
  ServesAll old new [] = new ≡ old
  ServesAll old new (m ∷ rest) = (mid : Mounted D) × Serves state old mid m.call m.answer × ServesAll mid new rest
