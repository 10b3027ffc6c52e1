-- The whole walk, from one run of stages to the next.
use Rattle.std.proofs.Common.{◌≡◌, ◌↔◌, ◌+◌, ◌*◌, ℕ, Bool, true, List, length, get_or, subst}
use Rattle.std.specs.List.{AllByRecursion}
use Rattle.lfs_model.specs.Checkpoint.{CheckpointValue, FitsCheckpoint}
use Rattle.lfs_model.specs.Content.{Content}
use Rattle.lfs_model.specs.Decodes.{IsSized}
use Rattle.lfs_model.specs.Device.{DeviceState, IsLawful, IsSector}
use Rattle.lfs_model.specs.Reach.{View, view}
use Rattle.lfs_model.specs.Stands.{EnoughClean, Stages}
use Rattle.lfs_model.proofs.Decodes.{are_sized}
use Rattle.lfs_verify.specs.Codes.{HoldsBelow, Passed}
use Rattle.lfs_verify.specs.Take.{ReadsContent}
use Rattle.lfs_verify.proofs.Bounds.{bounded_of}
use Rattle.lfs_verify.proofs.CodeSteps.{nine_stages, passed_none}

-- the sectors that were read are whole
pub sized_content : {d d' : DeviceState} → IsLawful d → (c : Content) → ReadsContent d d' c → IsSized c
sized_content lawful c reads = are_sized c (subst (AllByRecursion IsSector) reads.content lawful.now)

-- what a lawful device holds leads nowhere past the bounds, so that a walk over it can begin
pub passed_start : {d d' : DeviceState} → IsLawful d → {c : Content} → ReadsContent d d' c → {k : CheckpointValue} → FitsCheckpoint k
    → (marks : List ℕ) → length marks ≡ 2 + 64 * k.segments → ((a : ℕ) → get_or marks a 0 ≡ 0) → Passed (view c k) marks 0 1
passed_start lawful {c} reads {k} fits marks size empty =
    let all = subst (AllByRecursion IsSector) reads.content lawful.now in
    passed_none marks (bounded_of c (are_sized c all) k fits.map_length fits.usage_length) size empty

-- what the walk says at its end
pub walk_end : (v : View) (enough : Bool) → HoldsBelow v 10 × ((enough ≡ true) ↔ EnoughClean v)
    → Stages v × HoldsBelow v 10 × ((enough ≡ true) ↔ EnoughClean v)
walk_end v enough both = (nine_stages v both.0, both.0, both.1)
