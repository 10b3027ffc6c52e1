-- What a stop leaves of the lines that a recorder wrote to a mounted volume.
use Rattle.std.specs.Prelude.{◌≡◌, ℕ, false, List, ◌∷◌, Some, Ok, map, slice_get}
use Rattle.lfs_model.specs.Content.{Content}
use Rattle.lfs_model.specs.Device.{DeviceState}
use Rattle.lfs_model.specs.Run.{Point}
use Rattle.lfs_fs.specs.InARow.{IsSavedAt, ServesInARow}
use Rattle.lfs_fs.specs.Volume.{Mounted}
use Rattle.lfs_record.specs.Asking.{BeginsOn}
use Rattle.lfs_record.specs.Keeping.{GoesBy, LeavesFiles}
use Rattle.lfs_record.specs.Kept.{files_in}
use Rattle.lfs_record.specs.Moves.{Calls, Moves}
use Rattle.lfs_record.specs.Recording.{Makes}
use Rattle.lfs_record.specs.declared.recorder.Recorder.{Recorder}

module _ {D : Type 0} (state : D → DeviceState) where
  -- A recorder's calls of a volume, in a row, from a point on at which the volume is saved and the recorder goes by its state.
  pub record Records (old new : Mounted D) (calls : Calls) (clocks : List ℕ) (first : Point) (r r' : Recorder) : Type 0 where
    pub served : ServesInARow state new old (map (λ c. c.0) calls) (map (λ c. c.1) calls) clocks
    pub keeps : (state new.log.device).keeps_model
    pub saved : IsSavedAt state old first
    pub running : old.log.halted ≡ false
    pub goes_by : GoesBy r first.state
    pub moves : Moves r calls r'

  -- A stop at any moment since the clock at which the i-th call was answered, or since the start, leaves files that hold, one behind the
  -- other, all lines that were saved by then and perhaps later ones, but for whole files that went.
  abbrev pub LinesAreSaved : Type 0
  LinesAreSaved = (old new : Mounted D) (calls : Calls) (clocks : List ℕ) (first : Point) (r r' : Recorder)
      → Records old new calls clocks first r r' → (i t : ℕ) → slice_get ((state old.log.device).moment ∷ clocks) i ≡ Some t
      → (c : Content) → (state new.log.device).left_since t c → LeavesFiles (files_in first.state.tree) calls i c

  -- A recorder that began on a volume that is saved: it is saved still, with the same files, and the recorder goes by its state.
  pub record IsBegun (new : Mounted D) (first : Point) (r : Recorder) : Type 0 where
    pub next : Point
    pub saved : IsSavedAt state new next
    pub running : new.log.halted ≡ false
    pub goes_by : GoesBy r next.state
    pub same_files : files_in next.state.tree ≡ files_in first.state.tree

  -- So it is over a device that keeps the device model.
  abbrev pub BeginsAreSaved : Type 0
  BeginsAreSaved = (old new : Mounted D) (bytes files : ℕ) (r : Recorder) → BeginsOn state old new bytes files (Ok r)
      → (state new.log.device).keeps_model → (first : Point) → IsSavedAt state old first → IsBegun new first r

  -- And so a stop at any moment since a call of a recorder that began on such a volume was answered, or since it began, leaves all lines
  -- that were saved by then, behind what the files held before.
  abbrev pub SessionsAreSaved : Type 0
  SessionsAreSaved = (old mid new : Mounted D) (bytes files : ℕ) (r r' : Recorder) (calls : Calls)
      → BeginsOn state old mid bytes files (Ok r)
      → (makes : Makes state mid new r calls r') → (state new.log.device).keeps_model → (first : Point) → IsSavedAt state old first
      → (i t : ℕ) → slice_get ((state mid.log.device).moment ∷ makes.served.0) i ≡ Some t → (c : Content)
      → (state new.log.device).left_since t c → LeavesFiles (files_in first.state.tree) calls i c
