use Rattle.std.proofs.Common.{nat_eq, refl, ◌∙◌}
use Rattle.std.specs.Cmp.{nat_eq_equiv}
use Rattle.std.proofs.lemmas.Bool.{eqb-true, eq-eqb}
use Rattle.std.proofs.lemmas.Map.{lookup-remove_entry}
use Rattle.lfs_cache.proofs.kept.forget.Goals as goal

pub returns-clause-gone : goal.returns-clause-gone
returns-clause-gone c =
    rw c.pop.ensures.entries (
    lookup-remove_entry nat_eq_equiv (nat_eq c.args.sector) (λ x y t. rw (eqb-true c.args.sector x t) refl) c.args.sector
    c.args.kept.now.entries c.len-once.ensures.valid.0
    ∙ rw (eq-eqb c.args.sector c.args.sector refl) refl)
