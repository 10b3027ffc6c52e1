-- What the orders that are carried out leave of a recorder's lines.
use Rattle.std.proofs.Common.{◌≡◌, ℕ, length, refl, sym, subst}
use Rattle.lfs_model.proofs.Walks.{Some-injective}
use Rattle.lfs_fs.specs.Seen.{seen}
use Rattle.lfs_volume.specs.Found.{by_volume}
use Rattle.lfs_places.specs.Places.{volume_content}
use Rattle.lfs_queue.proofs.Beginnings.{stops_are_behind}
use Rattle.lfs_queue.proofs.Sequences.{done_leaves_told}
use Rattle.lfs_queue.specs.Queue.{queue_state, start_of, told_of}
use Rattle.pansuyog_calls.specs.Sessions as calls
use Rattle.pansuyog.specs.Mounted.{device_of, places_of}
use Rattle.pansuyog.specs.Sessions.{CarryingTends, RecordsAreSaved}
use Rattle.pansuyog.proofs.Mounted.{keeps_always}

pub records_are_saved : calls.RecordsAreSaved (by_volume queue_state) → RecordsAreSaved
records_are_saved kept old saved new first later session start at done by c left =
    let device = device_of new in
    let keeps = keeps_always (seen new).log.device in
    let stops = stops_are_behind (λ k. k) (start_of device) (told_of device) by.first by.told.clock c by.told.begins by.told.long
    (done_leaves_told (λ k. k) (start_of device) done by.first by.instead c left) in
    let clock : by.told.clock ≡ length (told_of (device_of saved)) = sym (Some-injective by.told.at) in
    kept old saved new first later session keeps start at (volume_content (places_of new) c)
    (subst (λ (n : ℕ). (by_volume queue_state (seen new).log.device).left_since n (volume_content (places_of new) c)) clock
    (keeps.0, (c, stops, refl)))

pub carrying_tends : CarryingTends
carrying_tends old new from to code done = record { still = done.3; no_failure = done.2.failures }
