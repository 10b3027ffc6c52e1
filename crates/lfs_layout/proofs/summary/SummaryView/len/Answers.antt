use Rattle.std.proofs.Common.{length, sym, ap, ◌∙◌, List}
use Rattle.lfs_model.specs.Summary.{BlockNameValue}
use Rattle.lfs_model.specs.Fields.{read16}
use Rattle.lfs_model.specs.Summary.{block_at}
use Rattle.lfs_model.proofs.Runs.{length-run}
use Rattle.lfs_layout.proofs.summary.SummaryView.len.Goals as goal

pub returns : goal.returns
returns c =
    let s = c.self.inside.sector.now in
    c.number16_at.ensures.read ∙ sym (length-run block_at 8 (read16 0 s) 8 s) ∙ ap (λ (bs : List BlockNameValue). length bs) c.self.view_is
