-- The exit of a `?` that returns a fault of a name.
use Rattle.std.proofs.Common.{◌≡◌, Result, Err}
use Rattle.std.specs.Prelude.{IsErr, IsErrAnd}
use Rattle.std.proofs.lemmas.Result.{err_from_is_err_and}

-- then the callee's was of that name
pub passed_on : {T E : Type 0} {r : Result T E} (e x : E) → IsErr r × IsErrAnd r (λ y. y ≡ e) → r ≡ Err x → e ≡ x
passed_on {r} e x gives same = let y = err_from_is_err_and r gives.1 in cc

pub same_fault : {T E : Type 0} (r : Result T E) (e : E) → IsErr r × IsErrAnd r (λ y. y ≡ e) → r ≡ Err e
same_fault r e gives = let y = err_from_is_err_and r gives.1 in cc
