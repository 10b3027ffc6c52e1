-- What was done for a device over a file: the calls of the system, and what was done in memory between them.
use Rattle.std.specs.Prelude.{ℕ, true, false, ◌==◌, if◌then◌else◌, Option, Some, None, List, [], ◌∷◌}
use Rattle.lfs_device.specs.HostCall.{HostCall, Length, Read, Write, Sync}
use Rattle.lfs_device.specs.Runs.{Run, no_run, taken}

pub data Event : Type 0 where
  -- a call of the system was made
  Called : HostCall → Event
  -- a write of these bytes to this sector was taken into the run that is kept
  Kept : ℕ → List ℕ → Event
  -- a read of this sector was answered from that run, by these bytes
  Shown : ℕ → List ℕ → Event
  -- a write of these bytes to this sector was refused, for the run couldn't be sent
  WriteRefused : ℕ → List ℕ → Event
  -- and so was a sync
  SyncRefused : Event

-- the calls of the system among them; the newest stands first
abbrev pub calls_made : List Event → List HostCall
calls_made [] = []
calls_made (Called call ∷ events) = call ∷ calls_made events
calls_made (Kept sector bytes ∷ events) = calls_made events
calls_made (Shown sector bytes ∷ events) = calls_made events
calls_made (WriteRefused sector bytes ∷ events) = calls_made events
calls_made (SyncRefused ∷ events) = calls_made events

-- the run that is kept: it was sent once the system wrote it
abbrev pub kept : List Event → Run
kept [] = no_run
kept (Called (Length told) ∷ events) = kept events
kept (Called (Read offset bytes done) ∷ events) = kept events
kept (Called (Write offset bytes true) ∷ events) = no_run
kept (Called (Write offset bytes false) ∷ events) = kept events
kept (Called (Sync done) ∷ events) = kept events
kept (Kept sector bytes ∷ events) = taken (kept events) sector bytes
kept (Shown sector bytes ∷ events) = kept events
kept (WriteRefused sector bytes ∷ events) = kept events
kept (SyncRefused ∷ events) = kept events

-- the bytes of the last write of a sector that was taken since a run was sent
abbrev pub last_kept : List Event → ℕ → Option (List ℕ)
last_kept [] k = None
last_kept (Called (Length told) ∷ events) k = last_kept events k
last_kept (Called (Read offset bytes done) ∷ events) k = last_kept events k
last_kept (Called (Write offset bytes true) ∷ events) k = None
last_kept (Called (Write offset bytes false) ∷ events) k = last_kept events k
last_kept (Called (Sync done) ∷ events) k = last_kept events k
last_kept (Kept sector bytes ∷ events) k = if k == sector then Some bytes else last_kept events k
last_kept (Shown sector bytes ∷ events) k = last_kept events k
last_kept (WriteRefused sector bytes ∷ events) k = last_kept events k
last_kept (SyncRefused ∷ events) k = last_kept events k
