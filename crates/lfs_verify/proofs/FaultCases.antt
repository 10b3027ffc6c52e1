-- Faults of a mount, passed on.
use Rattle.std.specs.Prelude.{Result, Err, IsErr, IsErrAnd}
use Rattle.std.proofs.Common.{◌≡◌}
use Rattle.std.proofs.lemmas.Result.{err_from_is_err_and}
use Rattle.lfs_verify.specs.declared.fault.MountFault.{MountFault}
use Rattle.lfs_verify.specs.declared.fault.MountFault.TheVariants as fault
use Rattle.lfs_verify.specs.Faults.{IsFault}

-- what a fault says, where the one gives the other
pub fault_on : (failed lacking failed' lacking' : Type 0) → (failed → failed') → (lacking → lacking') → (f : MountFault)
    → IsFault failed lacking f → IsFault failed' lacking' f
fault_on failed lacking failed' lacking' rise lack fault.NoMemory is = is
fault_on failed lacking failed' lacking' rise lack fault.Device is = rise is
fault_on failed lacking failed' lacking' rise lack f is = lack is

-- a fault that a `?` passes on
pub same_fault : {T E : Type 0} (r : Result T E) (e : E) → IsErr r × IsErrAnd r (λ y. y ≡ e) → r ≡ Err e
same_fault r e gives = let y = err_from_is_err_and r gives.1 in let is = y.1 in let of = y.2 in cc
