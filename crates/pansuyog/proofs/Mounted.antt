-- A device of orders whose volume is found, or not, and mounted, or not.
use Rattle.std.proofs.Common.{◌≡◌, Option, Some, None, ap, subst, sym}
use Rattle.lfs_model.specs.Device.{Carries, IsUntouched, LeavesOnly}
use Rattle.lfs_fs.specs.Finding.{IsFoundOn, IsNotFound}
use Rattle.lfs_fs.specs.Mounting.{IsRefused}
use Rattle.lfs_places.specs.declared.Places.{Places}
use Rattle.lfs_places.specs.Lawful.{one_place}
use Rattle.lfs_places.specs.Places.{volume_content}
use Rattle.lfs_queue.specs.Queue.{queue_state}
use Rattle.lfs_queue.specs.declared.queue.QueueDevice.{QueueDevice}
use Rattle.lfs_store.specs.log.verify.declared.fault.MountFault.{MountFault}
use Rattle.lfs_volume.specs.Finding.{found_places}
use Rattle.lfs_volume.specs.Found.{Found, by_volume}
use Rattle.lfs_volume.specs.Standing.{in_found, in_volume, volume_units}
use Rattle.pansuyog_calls.proofs.Made as of_calls
use Rattle.pansuyog_calls.specs.Making as calls
use Rattle.pansuyog.specs.Making.{IsNotMounted}

-- Its units are sectors, which lie within any.
pub keeps_always : (d : Found QueueDevice) → (by_volume queue_state d).keeps_model
keeps_always d = (
  (λ j k same.
      ap (volume_units d.places (volume_content d.places (queue_state d.held).content)) (one_place d.places j k same)),
  tt,
)

module _ (d : QueueDevice) where
  abbrev places : Option Places
  places = found_places (queue_state d).size (queue_state d).content

  -- where its volume is found and isn't mounted
  pub not_mounted : (v v' : Found QueueDevice) {d' : QueueDevice} {fault : MountFault} → IsFoundOn queue_state d v → d' ≡ v'.device
      → IsRefused (by_volume queue_state v) (by_volume queue_state v') fault
      → IsUntouched (by_volume queue_state v) (by_volume queue_state v') → Carries (by_volume queue_state v) (by_volume queue_state v')
      → LeavesOnly (by_volume queue_state v) (by_volume queue_state v') (by_volume queue_state v).may_leave → IsNotMounted d d' fault
  not_mounted v v' {d'} {fault} found back reason untouched carries moment =
      let there = of_calls.not_mounted queue_state d v v' found back reason untouched carries moment in
      at_found there.places (there.found (keeps_at there.places)) there.refused
    where
      keeps_at : (o : Option Places) → (in_found queue_state o d d').keeps_model
      keeps_at None = tt
      keeps_at (Some p) = ((λ j k same. ap (volume_units p (volume_content p (queue_state d).content)) (one_place p j k same)), tt)

      at_found : (o : Option Places) → places ≡ o → calls.IsNotMounted (in_found queue_state o d) d d' fault → IsNotMounted d d' fault
      at_found o is refused =
          let here = subst (λ (p : Option Places). calls.IsNotMounted (in_found queue_state p d) d d' fault) (sym is) refused in
          record { reason = here.reason; untouched = here.untouched; carries = here.carries; any_moment = here.any_moment }

  -- and where none is found
  pub not_found : (d' : QueueDevice) {fault : MountFault} → IsNotFound (in_volume queue_state d d) (in_volume queue_state d d') fault
      → IsNotMounted d d' fault
  not_found d' none = record {
    reason = none.reason;
    untouched = none.looks.untouched;
    carries = none.looks.carries;
    any_moment = none.looks.any_moment;
  }
