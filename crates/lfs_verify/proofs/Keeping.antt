-- What a row of steps of the walk keeps.
use Rattle.std.proofs.Common.{◌≡◌, List, ℕ, length, Ok, refl, ◌∙◌}
use Rattle.lfs_model.specs.Device.{DeviceState, IsLawful}
use Rattle.lfs_verify.specs.Keeping.{Steps}
use Rattle.lfs_verify.specs.Take.{Looks}
use Rattle.lfs_verify.proofs.Takes.{looks_none, looks_then}

-- the steps so far, none of which failed
pub record KeepsSoFar (old new : DeviceState) (table table' : List ℕ) : Type 0 where
  pub len : length table' ≡ length table
  pub no_failure : new.failures ≡ old.failures
  pub looks : Looks old new

pub keeps_none : {d : DeviceState} {table : List ℕ} → IsLawful d → KeepsSoFar d d table table
keeps_none {d} lawful = record { len = refl; no_failure = refl; looks = looks_none lawful }

pub keeps_then : {T E : Type 0} {a b c : DeviceState} {t u v : List ℕ} {x : T} → KeepsSoFar a b t u → Steps {T = T} {E = E} b c u v (Ok x)
    → KeepsSoFar a c t v
keeps_then {a} {b} {c} so_far step = record {
  len = step.len ∙ so_far.len;
  no_failure = step.no_failure ∙ so_far.no_failure;
  looks = looks_then so_far.looks step.looks;
}
