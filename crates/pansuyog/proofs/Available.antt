-- A device with room for a call: it is answered neither as a failed call of the device nor as a halted volume.
use Rattle.std.proofs.Common.{◌≡◌, Option, Some, None, sym, ◌∙◌, subst, arith}
use Rattle.std.proofs.lemmas.List.{length-map}
use Rattle.std.specs.Prelude.{ℤ}
use Rattle.lfs_places.specs.Placed.{volume_order}
use Rattle.lfs_model.specs.Call.{Call}
use Rattle.lfs_fs.proofs.Bearing as bearing
use Rattle.lfs_fs.specs.Available.{IsBorne}
use Rattle.lfs_fs.specs.Seen.{seen}
use Rattle.lfs_volume.specs.Found.{by_volume}
use Rattle.lfs_queue.specs.Queue.{queue_state}
use Rattle.pansuyog_calls.specs.Codes.{device_failed}
use Rattle.pansuyog_calls.specs.Serving as calls
use Rattle.pansuyog.specs.Mounted.{MountedVolume}
use Rattle.pansuyog.specs.Available.{CallsAreAvailable, HasRoomFor, halted}
use Rattle.pansuyog.specs.declared.handle.Volume.{Volume}
use Rattle.pansuyog.proofs.Mounted.{keeps_always}
use Rattle.pansuyog.proofs.Numbers.{answer_device, answer_halted}

module _ {old : Volume} {call : Call} (room : HasRoomFor old call) (code : ℤ) where
  served : (new : MountedVolume) → calls.ServesCall (by_volume queue_state) (Some room.fs) (Some new) call code
      → (code ≡ device_failed → ⊥) × (code ≡ halted → ⊥)
  served new answers =
      let borne : IsBorne (by_volume queue_state) (seen room.fs) (seen new) call answers.answer = record {
        serves = answers.serves;
        keeps = keeps_always (seen new).log.device;
        running = room.running;
        point = room.point;
        at = room.at;
        bears = (
            let more = room.room in
            let many = length-map (queue_state (seen room.fs).log.device.device).told (volume_order (seen room.fs).log.device.places) in
            omega (arith, more, many));
      } in
      let not = bearing.calls_are_available (by_volume queue_state) (seen room.fs) (seen new) call answers.answer borne in (
        (λ is. not.0 (answer_device answers.answer (sym answers.tells ∙ is))),
        (λ is. not.1 (answer_halted answers.answer (sym answers.tells ∙ is))),
      )

  by_mounted : (mounted after : Option MountedVolume) → mounted ≡ Some room.fs
      → calls.ServesCall (by_volume queue_state) mounted after call code → (code ≡ device_failed → ⊥) × (code ≡ halted → ⊥)
  by_mounted mounted (Some new) is serves =
      served new (subst (λ (o : Option MountedVolume). calls.ServesCall (by_volume queue_state) o (Some new) call code) is serves)
  by_mounted mounted None is serves =
      absurd (subst (λ (o : Option MountedVolume). calls.ServesCall (by_volume queue_state) o None call code) is serves)

pub available : CallsAreAvailable
available old new call code serves room = by_mounted room code old.fs new.fs room.mounted serves
