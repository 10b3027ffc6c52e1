-- What each call of a file device makes of what was done for it.
use Rattle.std.specs.Prelude.{◌≡◌, ℕ, ◌*◌, Bool, true, false, List, ◌∷◌}
use Rattle.std.specs.List.{concat}
use Rattle.lfs_model.specs.declared.limits.TheConstants.{SECTOR_LEN}
use Rattle.lfs_device.specs.Event.{Event, Called, Kept, Shown, WriteRefused, SyncRefused, kept}
use Rattle.lfs_device.specs.HostCall.{Read, Write, Sync}
use Rattle.lfs_device.specs.Runs.{IsEmpty, IsOf, Takes, bytes_of}

-- the call that sends the run that is kept, and whether it was done
abbrev pub sending : List Event → Bool → Event
sending events done = Called (Write (SECTOR_LEN * (kept events).first) (concat (kept events).sectors) done)

-- A sector that is kept is read from the run, with no call of the system. Another is read by one, at the sector's place, and the answer is
-- that call's.
pub data ReadsFile (sector : ℕ) (bytes : List ℕ) (done : Bool) (old new : List Event) : Type 0 where
  from_run : IsOf (kept old) sector → bytes ≡ bytes_of (kept old) sector → done ≡ true → new ≡ Shown sector bytes ∷ old
      → ReadsFile sector bytes done old new
  from_file : (IsOf (kept old) sector → ⊥) → new ≡ Called (Read (SECTOR_LEN * sector) bytes done) ∷ old
      → ReadsFile sector bytes done old new

-- Where the run takes the sector, nothing is done. Where it doesn't, the run is sent, if that can be done.
pub data MakesRoom (sector : ℕ) (done : Bool) (old new : List Event) : Type 0 where
  has_room : Takes (kept old) sector → done ≡ true → new ≡ old → MakesRoom sector done old new
  room_made : (Takes (kept old) sector → ⊥) → new ≡ sending old done ∷ old → MakesRoom sector done old new

-- Where nothing is kept, nothing is done. Where a run is, it is sent, if that can be done.
pub data Sends (done : Bool) (old new : List Event) : Type 0 where
  none_to_send : IsEmpty (kept old) → done ≡ true → new ≡ old → Sends done old new
  sends : (IsEmpty (kept old) → ⊥) → new ≡ sending old done ∷ old → Sends done old new

-- Where the run takes the sector, it is kept, with no call of the system. Where it doesn't, the run is sent by one, and begins anew with
-- the sector; or that call fails, the write is refused, and the run stays.
pub data WritesFile (sector : ℕ) (bytes : List ℕ) (done : Bool) (old new : List Event) : Type 0 where
  goes_on : Takes (kept old) sector → done ≡ true → new ≡ Kept sector bytes ∷ old → WritesFile sector bytes done old new
  begins : (Takes (kept old) sector → ⊥) → done ≡ true → new ≡ Kept sector bytes ∷ sending old true ∷ old
      → WritesFile sector bytes done old new
  write_refused : (Takes (kept old) sector → ⊥) → done ≡ false → new ≡ WriteRefused sector bytes ∷ sending old false ∷ old
      → WritesFile sector bytes done old new

-- Where nothing is kept, it is one call of the system, and the answer is that call's. Where a run is, it is sent first; or that fails, the
-- sync is refused, and the run stays.
pub data SyncsFile (done : Bool) (old new : List Event) : Type 0 where
  none_kept : IsEmpty (kept old) → new ≡ Called (Sync done) ∷ old → SyncsFile done old new
  is_sent : (IsEmpty (kept old) → ⊥) → new ≡ Called (Sync done) ∷ sending old true ∷ old → SyncsFile done old new
  sync_refused : (IsEmpty (kept old) → ⊥) → done ≡ false → new ≡ SyncRefused ∷ sending old false ∷ old → SyncsFile done old new
