-- The exit of a `?` where both errors are of one type: the error that came is the one that goes.
use Rattle.std.proofs.Common.{◌≡◌, Result, Ok, Err}
use Rattle.std.specs.Prelude.{IfErr, OnErr, IsErr, IsErrAnd}
use Rattle.std.proofs.lemmas.Result.{err_from_is_err_and}

pub same_error : {T E : Type 0} (r : Result T E) (e : E) (P : E → Type 0) → IsErr r × IsErrAnd r (λ y. y ≡ e) → P e → IfErr r P
same_error r e P gives holds = let y = err_from_is_err_and r gives.1 in rw (y.1, y.2) holds

-- what holds whatever the error is
pub any_error : {T E : Type 0} (r : Result T E) (P : Type 0) → P → OnErr r P
any_error (Ok x) P holds = record {}
any_error (Err e) P holds = holds
