-- What a rename comes to, and whether what it replaces is open.
use Rattle.std.specs.Prelude.{◌≡◌, ◌≢◌, ℕ, List, Option, Some, None}
use Rattle.lfs_model.specs.Checkpoint.{CheckpointValue}
use Rattle.lfs_model.specs.Device.{DeviceState}
use Rattle.lfs_model.specs.Stands.{LogMap}
use Rattle.lfs_model.specs.Tree.{Handles, State, opened}
use Rattle.lfs_path.specs.declared.last.Last.{Last}
use Rattle.lfs_path.specs.Trees.{IsChain, here}
use Rattle.lfs_entries.specs.declared.entry.Object.{Object}
use Rattle.lfs_fs.specs.declared.fs.Fs.{Fs}
use Rattle.lfs_fs.specs.Naming.{Reaches}
use Rattle.lfs_fs.specs.Volume.{IsIn, Mounted}
use Rattle.lfs_fs.specs.Seen.{seen}

-- a handle is open on what was found, or none is
abbrev pub IsOpen : Handles → Option Object → Type 0
IsOpen hs None = ⊥
IsOpen hs (Some o) = opened hs o.number.value ≢ 0

abbrev pub IsShut : Handles → Option Object → Type 0
IsShut hs None = Unit {0}
IsShut hs (Some o) = opened hs o.number.value ≡ 0

-- A rename began at volume v, read, and came to the last pieces of both paths: to that of the second in the directory of a chain.
pub record ReachesBoth {D : Type 0} (state : D → DeviceState) (v : Mounted D) (old : Fs D) (a : List ℕ) (da : ℕ) (from : Option Last)
    (b chain : List ℕ) (to : Option Last) : Type 0 where
  pub first : Reaches state v old a da from
  pub second : Reaches state v old b (here chain) to
  pub directories : (k : CheckpointValue) (m0 m : LogMap) (s : State) → (state (seen old).log.device).keeps_model → IsIn state v k m0 m s
      → IsChain s.tree chain
