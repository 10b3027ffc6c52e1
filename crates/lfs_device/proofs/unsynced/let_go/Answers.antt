use Rattle.std.proofs.Common.{rules, ◌==◌, not, ℕ}
use Rattle.std.proofs.lemmas.Fn.{filter_same}
use Rattle.lfs_device.proofs.unsynced.let_go.Goals as goal

pub returns-clause-others : goal.returns-clause-others
returns-clause-others c =
    filter_same _ (λ (listed : ℕ). not (listed == c.args.sector)) _ (λ x b f' k. search rules) _ _ c.retain.ensures.filtered
