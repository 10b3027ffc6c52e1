use Rattle.std.proofs.Common.{◌∙◌, ap, sym, get_or, ℕ, List, arith}
use Rattle.lfs_model.specs.Fields.{read32}
use Rattle.lfs_model.proofs.Runs.{get_or-run}
use Rattle.lfs_layout.proofs.pointers.PointerView.get.Goals as goal

pub returns : goal.returns
returns c =
    c.number32_at.ensures.read ∙ ap (λ (k : ℕ). read32 k c.self.inside.sector.now) (omega arith)
    ∙ sym (get_or-run read32 4 128 0 c.self.inside.sector.now c.args.place 0 c.requires)
    ∙ ap (λ (ns : List ℕ). get_or ns c.args.place 0) c.self.view_is
