use Rattle.std.proofs.Common.{◌==◌, ◌∷◌, ℕ, sym, ap, ne_eqb}
use Rattle.std.proofs.lemmas.Bool.{cond-false}
use Rattle.lfs_model.specs.Checkpoint.{shape_bytes}
use Rattle.lfs_model.specs.Fields.{zeros}
use Rattle.lfs_layout.proofs.checkpoint.shape.Goals as goal

pub returns-then-version-eq-LAST_VERSION : goal.returns-then-version-eq-LAST_VERSION
unfolding zeros
returns-then-version-eq-LAST_VERSION c = sym (ap (λ (n : ℕ). shape_bytes n c.args.unit_power) c.if-version-eq-LAST_VERSION.true)

pub returns-else-version-eq-LAST_VERSION : goal.returns-else-version-eq-LAST_VERSION
unfolding zeros
returns-else-version-eq-LAST_VERSION c =
    sym (cond-false (c.args.version == 3) (c.args.unit_power ∷ 6 ∷ 9 ∷ zeros 5) (zeros 8)
    (ne_eqb c.args.version 3 c.if-version-eq-LAST_VERSION.false))
