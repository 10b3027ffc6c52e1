-- The calls on a file as a device, read off what was done for it.
use Rattle.std.specs.Prelude.{ℕ, ◌/◌, true, false, List, [], ◌∷◌}
use Rattle.lfs_model.specs.declared.limits.TheConstants.{SECTOR_LEN}
use Rattle.lfs_device.specs.Event.{Event, Called, Kept, Shown, WriteRefused, SyncRefused}
use Rattle.lfs_device.specs.HostCall.{Length, Read, Write, Sync}

-- a call and what it answered
pub data Call : Type 0 where
  -- a read of this sector gave these bytes
  Given : ℕ → List ℕ → Call
  -- these bytes were written to this sector
  Written : ℕ → List ℕ → Call
  -- a write of these bytes to this sector failed
  Refused : ℕ → List ℕ → Call
  Synced : Call
  FailedRead : Call
  FailedSync : Call

-- the newest first; the length is asked for before there is a device, and sending a run is a part of the call for which it is sent
abbrev pub calls_of : List Event → List Call
calls_of [] = []
calls_of (Called (Length told) ∷ events) = calls_of events
calls_of (Called (Read offset bytes true) ∷ events) = Given (offset / SECTOR_LEN) bytes ∷ calls_of events
calls_of (Called (Read offset bytes false) ∷ events) = FailedRead ∷ calls_of events
calls_of (Called (Write offset bytes done) ∷ events) = calls_of events
calls_of (Called (Sync true) ∷ events) = Synced ∷ calls_of events
calls_of (Called (Sync false) ∷ events) = FailedSync ∷ calls_of events
calls_of (Kept sector bytes ∷ events) = Written sector bytes ∷ calls_of events
calls_of (Shown sector bytes ∷ events) = Given sector bytes ∷ calls_of events
calls_of (WriteRefused sector bytes ∷ events) = Refused sector bytes ∷ calls_of events
calls_of (SyncRefused ∷ events) = FailedSync ∷ calls_of events
