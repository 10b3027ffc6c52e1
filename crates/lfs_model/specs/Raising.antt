-- A log map whose version of the layout is raised to 2; its objects stay. That is an own choice.
use Rattle.std.specs.Prelude.{◌≡◌, ◌≤◌, ℕ, Bool, cond, List, Option}
use Rattle.lfs_model.specs.Checkpoint.{CheckpointValue}
use Rattle.lfs_model.specs.Content.{Content}
use Rattle.lfs_model.specs.Device.{DeviceState}
use Rattle.lfs_model.specs.Encodes.{IsLogMap}
use Rattle.lfs_model.specs.Entry.{Entry}
use Rattle.lfs_model.specs.Laid.{IsLaid}
use Rattle.lfs_model.specs.Memory.{Memory}
use Rattle.lfs_model.specs.Running.{Dirty, Running, Tables}
use Rattle.lfs_model.specs.Stands.{LogMap}
use Rattle.lfs_model.specs.TreeOf.{tree_in}

-- the log map, raised or as it is
abbrev pub raised : Bool → LogMap → LogMap
raised is m = record { header = m.header; block = m.block; version = cond is 2 m.version }

-- Memory and device are laid out as before: nothing there says the version, before the next checkpoint does.
abbrev pub RaisedLaid : Type 0
RaisedLaid = (e : Content) (m : LogMap) (M : Memory) (opened_at : ℕ) (is : Bool) → IsLaid e m M opened_at
    → IsLaid e (raised is m) M opened_at

-- So the log runs on with it.
abbrev pub RaisedRuns : Type 1
RaisedRuns =
    (d : DeviceState) (dirty : Dirty) (t : Tables) (k : CheckpointValue) (m0 m : LogMap) (seg : ℕ) (chunk : Option (List Entry)) (is : Bool)
    → Running d dirty t k m0 m seg chunk → Running d dirty t k m0 (raised is m) seg chunk

-- A volume may keep it, for each form of an older version is one of version 2.
abbrev pub RaisedKept : Type 0
RaisedKept = (m : LogMap) (is : Bool) → m.version ≤ 2 → IsLogMap m → IsLogMap (raised is m)

-- Its tree is the same.
abbrev pub RaisedTree : Type 0
RaisedTree = (m : LogMap) (is : Bool) → tree_in (raised is m) ≡ tree_in m
