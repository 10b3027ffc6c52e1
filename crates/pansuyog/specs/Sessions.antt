-- A recorder's lines where the orders of the volume are carried out. It is an own choice.
use Rattle.std.specs.Prelude.{ℕ, ℤ, List, [], ◌∷◌, Some, length}
use Rattle.lfs_model.specs.Content.{Content}
use Rattle.lfs_model.specs.Run.{Point}
use Rattle.lfs_model.specs.declared.Order.{Order}
use Rattle.lfs_fs.specs.InARow.{IsSavedAt, IsTended}
use Rattle.lfs_fs.specs.Seen.{seen}
use Rattle.lfs_volume.specs.Found.{by_volume}
use Rattle.lfs_places.specs.Places.{volume_content}
use Rattle.lfs_queue.specs.Kept.{IsDoneBy}
use Rattle.lfs_queue.specs.Orders.{MayLeave}
use Rattle.lfs_queue.specs.Queue.{queue_state, start_of, told_of}
use Rattle.lfs_record.specs.Kept.{files_in}
use Rattle.pansuyog_calls.specs.Sessions.{HoldsTexts, Session}
use Rattle.pansuyog.specs.Mounted.{MountedVolume, device_of, places_of}
use Rattle.pansuyog.specs.Orders.{CarriesOut}
use Rattle.pansuyog.specs.declared.handle.Source.{Source}

-- From a volume on that is saved, C begins a recorder, writes lines, and is told that a save is done. Once the orders are carried out that
-- were told by then, or others in their place, a stop leaves at the places of the volume all lines that C was told are written before the
-- save, behind what the files held before, but for whole files that went.
abbrev pub RecordsAreSaved : Type 0
RecordsAreSaved = (old saved new : MountedVolume) (first later : List (List ℕ)) → Session (by_volume queue_state) old saved new first later
    → (start : Point) → IsSavedAt (by_volume queue_state) (seen old) start → (done : List Order)
    → IsDoneBy (device_of new) (length (told_of (device_of saved)) ∷ []) done 0 → (c : Content)
    → MayLeave (λ k. k) (start_of (device_of new)) done c
    → HoldsTexts (files_in start.state.tree) first later (volume_content (places_of new) c)

-- Orders that are carried out between two calls leave the volume as such a session has it.
abbrev pub CarryingTends : Type 0
CarryingTends = (old new : MountedVolume) (from to : Source) (code : ℤ) → CarriesOut (Some old) (Some new) from to code
    → IsTended (by_volume queue_state) (seen old) (seen new)
