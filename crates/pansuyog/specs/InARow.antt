-- Calls of C in a row on a mounted volume, between which the orders that wait are carried out, and what a stop then leaves of the device
-- that carries them out. It is an own choice.
use Rattle.std.specs.Prelude.{◌≡◌, ℕ, ℤ, List, [], ◌∷◌, Some, length, map}
use Rattle.lfs_model.specs.Call.{Answer, Call}
use Rattle.lfs_model.specs.Run.{Point, Run}
use Rattle.lfs_fs.specs.InARow.{IsSavedAt, MountsSaved}
use Rattle.lfs_fs.specs.Seen.{seen}
use Rattle.lfs_fs.specs.Volume.{segments_of}
use Rattle.lfs_volume.specs.Found.{by_volume}
use Rattle.lfs_queue.specs.Kept.{KeepsDone}
use Rattle.lfs_queue.specs.Queue.{queue_state, told_of}
use Rattle.lfs_queue.specs.declared.queue.QueueDevice.{QueueDevice}
use Rattle.pansuyog_calls.specs.Codes.{code_of_answer}
use Rattle.pansuyog_calls.specs.InARow.{ServesByContract}
use Rattle.pansuyog.specs.Making.{Mounts}
use Rattle.lfs_places.specs.Places.{volume_content}
use Rattle.pansuyog.specs.Mounted.{MountedVolume, device_of, places_of}
use Rattle.pansuyog.specs.Orders.{CarriesOut, device_in, told_by}
use Rattle.pansuyog.specs.Serving.{IsUnchanged}
use Rattle.pansuyog.specs.declared.handle.Volume.{Volume}

-- Calls of C in a row, what C is told by each, and how many orders the device was told by then. At any time between, C may make calls
-- that leave the volume as it is, and the orders that wait may be carried out.
pub data MakesInARow (last : Volume) : Volume → List Call → List ℤ → List ℕ → Type 0 where
  no_more : MakesInARow last last [] [] []
  is_served : {old : Volume} {calls : List Call} {codes : List ℤ} {clocks : List ℕ} (new : Volume) (call : Call) (code : ℤ)
      → ServesByContract (by_volume queue_state) old.fs new.fs call code → MakesInARow last new calls codes clocks
      → MakesInARow last old (call ∷ calls) (code ∷ codes) (length (told_by (device_in new)) ∷ clocks)
  is_unchanged : {old : Volume} {calls : List Call} {codes : List ℤ} {clocks : List ℕ} (new : Volume) → IsUnchanged old new
      → MakesInARow last new calls codes clocks → MakesInARow last old calls codes clocks
  is_carried_out : {old : Volume} {calls : List Call} {codes : List ℤ} {clocks : List ℕ} (new : Volume) (code : ℤ)
      → CarriesOut old.fs new.fs old.source new.source code → MakesInARow last new calls codes clocks
      → MakesInARow last old calls codes clocks

-- The numbers are those of answers that are a run of the model. Once the orders that were told by one of them are carried out, or others
-- in their place, a stop leaves at the places of the volume the state behind every call that was acknowledged by then, or a later one.
pub record AreKept (old new : MountedVolume) (calls : List Call) (codes : List ℤ) (clocks : List ℕ) (first : Point) : Type 0 where
  pub answers : List Answer
  pub told : codes ≡ map code_of_answer answers
  pub points : List Point
  pub run : Run (segments_of (seen old)) first calls answers points
  pub kept : KeepsDone (device_of new) (volume_content (places_of new)) (first ∷ points) calls answers
      (length (told_of (device_of old)) ∷ clocks)

-- So it is of each list of calls, from a point on at which the volume is saved.
abbrev pub CallsAreKept : Type 0
CallsAreKept = (old new : Volume) (calls : List Call) (codes : List ℤ) (clocks : List ℕ) → MakesInARow new old calls codes clocks
    → (fs : MountedVolume) → old.fs ≡ Some fs → (first : Point) → IsSavedAt (by_volume queue_state) (seen fs) first
    → (last : MountedVolume) × (new.fs ≡ Some last) × AreKept fs last calls codes clocks first

-- A mount comes to such a point.
abbrev pub MountsAreSaved : Type 0
MountsAreSaved = (device : QueueDevice) (fs : MountedVolume) (mounts : Mounts device fs)
    → MountsSaved (by_volume queue_state) mounts.0 fs
