-- What a run says of its writes by its end.
use Rattle.std.proofs.Common.{◌≡◌, ℕ, Bool, Option, Some, None, subst}
use Rattle.lfs_model.specs.Call.{Answer}
use Rattle.lfs_script.specs.Strict.{Follows, WritesOn, WritesTo}
use Rattle.lfs_script.specs.declared.script.StrictEnd.{StrictEnd}
use Rattle.lfs_script.specs.declared.script.StrictEnd.TheVariants.{Script, Refused}

-- from an earlier count, which is the same
pub writes_from : (end : StrictEnd) {f f1 : ℕ} (f2 : ℕ) → f1 ≡ f → WritesTo end f1 f2 → WritesTo end f f2
writes_from end {f} {f1} f2 same writes = subst (λ n. WritesTo end n f2) same writes

-- behind a reply that went out
pub writes_decided : (strict : Bool) (end : Option StrictEnd) (answer : Answer) {f f1 : ℕ} → Follows strict end answer → f1 ≡ f
    → WritesOn end f f1
writes_decided strict None answer follows same = same
writes_decided strict (Some Refused) answer follows same = same
writes_decided strict (Some (Script end)) answer follows same = absurd follows
