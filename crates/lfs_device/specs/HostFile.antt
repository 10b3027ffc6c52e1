-- What was done with an open file, as a list.
use Rattle.std.specs.Prelude.{ℕ, Option, Some, None, Result, Ok, Err, List, [], ◌∷◌, drop, take}
use Rattle.lfs_device.specs.Event.{Event, Called, Kept, Shown, WriteRefused, SyncRefused}
use Rattle.lfs_device.specs.HostCall.{Length, Read, Write, Sync}
use Rattle.lfs_device.specs.declared.host.HostFile.{HostFile}
use Rattle.lfs_device.specs.declared.host.Noted.{Noted}
use Rattle.lfs_device.specs.declared.host.Noted.TheVariants as noted
use Rattle.lfs_device.specs.declared.host.Notes.{Notes, Nothing, After'}

abbrev pub event_noted : Noted → Event
event_noted (noted.Length told) = Called (Length told)
event_noted (noted.Read offset bytes done) = Called (Read offset bytes.value done)
event_noted (noted.Write offset bytes at len done) = Called (Write offset (take len (drop at bytes.value.items)) done)
event_noted (noted.Sync done) = Called (Sync done)
event_noted (noted.Kept sector bytes) = Kept sector bytes.value
event_noted (noted.Shown sector bytes) = Shown sector bytes.value
event_noted (noted.WriteRefused sector bytes) = WriteRefused sector bytes.value
event_noted noted.SyncRefused = SyncRefused

abbrev pub events_noted : Notes → List Event
events_noted Nothing = []
events_noted (After' note mark before) = event_noted note ∷ events_noted before

-- the newest first
abbrev pub events : HostFile → List Event
events file = events_noted file.notes.value

-- what a call for the length told
abbrev pub told_by : {E : Type 0} → Result ℕ E → Option ℕ
told_by (Ok len) = Some len
told_by (Err error) = None
