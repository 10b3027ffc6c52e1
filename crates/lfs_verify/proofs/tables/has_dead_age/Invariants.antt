use Rattle.std.proofs.Common.{◌≡◌, ◌<◌, ℕ, get_or}
use Rattle.lfs_model.specs.Usage.{no_use}
use Rattle.lfs_verify.proofs.tables.has_dead_age.Given as goal

abbrev pub invariant-loop-entry : goal.invariant-loop-entry
invariant-loop-entry l = record { before : (i : ℕ) → i < l.entry → (get_or l.block i no_use).live ≡ 0 → (get_or l.block i no_use).age ≡ 0 }
