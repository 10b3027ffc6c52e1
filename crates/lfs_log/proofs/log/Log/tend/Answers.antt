use Rattle.lfs_log.proofs.KeptRuns.{kept_still}
use Rattle.lfs_log.proofs.log.Log.tend.Goals as goal

pub invariant_of-self : goal.invariant_of-self
invariant_of-self g c =
    let did = c.tend.ensures in
    kept_still _ (record { untouched = did.untouched; carries = did.carries; time = did.time; told = did.told }) c.self.invariant
