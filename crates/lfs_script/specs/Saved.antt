-- A whole use of a volume that ended with all saved, or not. The language is an own choice.
use Rattle.std.specs.Prelude.{◌≡◌, ℕ, Bool, false, IsTrue, Option, List}
use Rattle.lfs_model.specs.Device.{DeviceState}
use Rattle.lfs_model.specs.Run.{Point, final}
use Rattle.lfs_model.specs.Tree.{drop_nameless}
use Rattle.lfs_model.specs.TreeOf.{LeavesOne}
use Rattle.lfs_script.specs.Session.{SessionNoted}
use Rattle.lfs_script.specs.Noted.{Glance}
use Rattle.lfs_script.specs.declared.script.StrictEnd.{StrictEnd}

-- Unless a commit failed, a stop leaves the state of the last point, without files of no name.
abbrev pub LeavesLast : DeviceState → Point → List Point → Type 0
LeavesLast d first points = (final first points).halted ≡ false → LeavesOne d (drop_nameless (final first points).state)

-- A use before a witness. Where all is saved at its end, a stop leaves the state behind its last line.
pub record SessionSaved (is_saved strict : Bool) (end : StrictEnd) (r r' w w' : Option (List ℕ)) (d d' : DeviceState)
    (s s' : List Glance) : Type 0 where
  pub session : SessionNoted strict end r r' w w' d d' s s'
  pub saved : IsTrue is_saved → (keeps : d'.keeps_model)
      → LeavesLast d' (session.uses keeps).uses.first (session.uses keeps).uses.points
