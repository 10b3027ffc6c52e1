use Rattle.std.proofs.Common.{sym, ap, ◌∙◌}
use Rattle.std.proofs.lemmas.Bool.Decides.{Decides-eqb}
use Rattle.lfs_model.specs.Fields.{le32, part}
use Rattle.lfs_model.proofs.Numbers.{le32_inj}
use Rattle.lfs_layout.proofs.checkpoint.has_sum.Goals as goal

pub returns : goal.returns
unfolding part
returns c =
    let n = c.number32_at.result in
    let there = c.number32_at.ensures.spelled in
    let same = Decides-eqb n c.sum.result in (
      (λ yes. sym there ∙ ap le32 (same.0 yes ∙ c.sum.ensures)),
      (λ is. same.1 (le32_inj n c.number32_at.type_inv c.sum.type_inv (there ∙ is ∙ ap le32 (sym c.sum.ensures)))),
    )
