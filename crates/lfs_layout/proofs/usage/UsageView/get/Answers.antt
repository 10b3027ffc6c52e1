use Rattle.std.proofs.Common.{◌≡◌, ◌∙◌, ◌+◌, ◌*◌, ap, sym, get_or, ℕ, List, arith}
use Rattle.lfs_model.specs.Usage.{SegmentUse, no_use}
use Rattle.lfs_model.specs.Usage.{use_at}
use Rattle.lfs_model.proofs.Runs.{get_or-run}
use Rattle.lfs_layout.proofs.usage.UsageView.get.Goals as goal

pub returns : goal.returns
returns c =
    let s = c.self.inside.sector.now in
    let at : 8 * c.args.entry ≡ 0 + 8 * c.args.entry = omega arith in
    c.entry_at.ensures ∙ ap (λ (k : ℕ). use_at k s) at
    ∙ sym (get_or-run use_at 8 64 0 s c.args.entry no_use c.requires)
    ∙ ap (λ (us : List SegmentUse). get_or us c.args.entry no_use) c.self.view_is
