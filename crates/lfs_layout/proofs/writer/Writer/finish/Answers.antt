use Rattle.std.proofs.Common.{◌≡◌, List, ℕ, length, sym, ap, ◌∙◌, arith}
use Rattle.std.proofs.lemmas.List.{take_all, length-take}
use Rattle.lfs_layout.proofs.writer.Writer.finish.Goals as goal

pub returns : goal.returns
returns g c =
    let bytes = c.self.inside.bytes in
    let at = c.self.inside.at in
    let long : length bytes ≡ g.row.L = c.self.invariant.1 in
    let whole = ap (λ (b : List ℕ). length b) c.self.view_is ∙ c.requires in
    sym (take_all at bytes (omega (arith, whole, long, length-take at bytes))) ∙ c.self.view_is
