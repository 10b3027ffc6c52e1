-- A volume is made on a device of orders: what came of it.
use Rattle.std.proofs.Common.{◌≡◌, ◌⊎◌, inl, inr, ◌<◌, ℕ, [], ◌∷◌, refl}
use Rattle.std.specs.Prelude.{◌↔◌, Result, Ok, Err, IsErrOf, OnOk}
use Rattle.lfs_model.specs.Checkpoint.{IsSectorVersion, IsSegmentCount}
use Rattle.lfs_model.specs.Content.{Content}
use Rattle.lfs_model.specs.Image.{IsNew}
use Rattle.lfs_model.specs.Reach.{segment_start}
use Rattle.lfs_model.specs.Tree.{Dir, new_form}
use Rattle.lfs_model.specs.TreeOf.{Stands}
use Rattle.lfs_model.specs.Volume.{mounted}
use Rattle.lfs_format.specs.Making.{HasMade}
use Rattle.lfs_format.specs.declared.fault.FormatFault.{FormatFault}
use Rattle.lfs_format.specs.declared.fault.FormatFault.TheVariants as fault
use Rattle.lfs_queue.specs.Queue.{queue_state}
use Rattle.lfs_queue.specs.declared.queue.QueueDevice.{QueueDevice}
use Rattle.pansuyog_calls.proofs.Made.{by_old_places, sector_version}
use Rattle.pansuyog.specs.Making.{IsMade}

module _ (segments version : ℕ) (old new : QueueDevice) where
  volume_made : IsSectorVersion version → HasMade version segments 0 (queue_state old) (queue_state new)
      → {done : Unit {0}} → IsMade segments version old new (Ok done)
  volume_made known made =
      let by_old = by_old_places version known (queue_state new).content in (
        by_old (λ (c : Content). IsNew version segments 0 c) (made.image tt),
        made.durable tt,
        by_old (λ (c : Content). Stands c (mounted version ((1, Dir (new_form version) []) ∷ []))) (made.volume tt),
      )

  pub made_on : (r : Result (Unit {0}) FormatFault)
      → (IsErrOf r fault.Inval ↔ ¬ (IsSegmentCount segments × IsSectorVersion version))
      → (IsErrOf r fault.TooSmall ↔ (IsSegmentCount segments × IsSectorVersion version
      × ((queue_state old).size < segment_start segments)))
      → ((IsErrOf r fault.Inval ⊎ IsErrOf r fault.TooSmall) → new ≡ old)
      → (IsErrOf r fault.Device → (queue_state old).failures < (queue_state new).failures)
      → OnOk r (HasMade version segments 0 (queue_state old) (queue_state new)) → IsMade segments version old new r
  made_on (Ok done) inval small refused failed made = volume_made (sector_version (λ not. let wrong = inval.1 not in cc)) made
  made_on (Err fault.Inval) inval small refused failed made = (inval.0 refl, refused (inl refl))
  made_on (Err fault.TooSmall) inval small refused failed made = let is = small.0 refl in (is.0, is.1, is.2, refused (inr refl))
  made_on (Err fault.Device) inval small refused failed made = failed refl
