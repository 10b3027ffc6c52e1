-- How far the call that widens a directory came.
use Rattle.std.specs.Prelude.{◌≡◌, ℕ, List, true}
use Rattle.lfs_model.specs.declared.Kind.TheVariants as kind
use Rattle.lfs_model.specs.Checkpoint.{CheckpointValue}
use Rattle.lfs_model.specs.Device.{DeviceState}
use Rattle.lfs_model.specs.Stands.{LogMap}
use Rattle.lfs_model.specs.Tree.{State}
use Rattle.lfs_files.specs.declared.header.Header.{Header}
use Rattle.lfs_path.specs.Seeing.{HasHeader}
use Rattle.lfs_fs.specs.declared.fs.Fs.{Fs}
use Rattle.lfs_fs.specs.Reading.{ReachesObject}
use Rattle.lfs_fs.specs.Seen.{seen}
use Rattle.lfs_fs.specs.Volume.{IsIn, Mounted}

module _ {D : Type 0} (state : D → DeviceState) where
  -- It came to object n, which has this header: it is a directory of the first form, and the volume isn't of version 1.
  pub record ReachesNarrow (v : Mounted D) (f : Fs D) (path : List ℕ) (n : ℕ) (head : Header) : Type 0 where
    pub reached : ReachesObject state v f path true n
    pub there : (k : CheckpointValue) (m0 m : LogMap) (s : State) → (state (seen f).log.device).keeps_model → IsIn state v k m0 m s
        → HasHeader n head m
    pub directory : head.kind ≡ kind.Directory
    pub narrow : head.form ≡ 0
    pub version : v.log.version ≡ 1 → ⊥
