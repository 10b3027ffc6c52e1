use Rattle.std.proofs.Common.{◌≡◌, ◌∙◌, ◌+◌, ◌*◌, ap, sym, get_or, ℕ, arith}
use Rattle.lfs_model.specs.Inode.{InodeValue}
use Rattle.lfs_model.specs.Fields.{read32}
use Rattle.lfs_model.proofs.Runs.{get_or-run}
use Rattle.lfs_layout.proofs.inode.InodeView.direct.Goals as goal

pub returns : goal.returns
returns c =
    let s = c.self.inside.sector.now in
    let at : 4 * (8 + c.args.block) ≡ 32 + 4 * c.args.block = omega arith in
    c.number32_at.ensures.read ∙ ap (λ (k : ℕ). read32 k s) at
    ∙ sym (get_or-run read32 4 112 32 s c.args.block 0 c.requires)
    ∙ ap (λ (i : InodeValue). get_or i.direct c.args.block 0) c.self.view_is
