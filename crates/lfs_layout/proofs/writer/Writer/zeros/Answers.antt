use Rattle.std.proofs.Common.{arith, ap, ◌∙◌, ◌++◌, List, ℕ, length, length-take}
use Rattle.lfs_model.specs.Fields.{zeros}
use Rattle.lfs_layout.proofs.Unwritten.{fewer_left, zeros_next}
use Rattle.lfs_layout.proofs.writer.Writer.zeros.Goals as goal

pub invariant_of-self : goal.invariant_of-self
invariant_of-self g c =
    let is = c.self.invariant in
    let many = ap (λ (b : List ℕ). length b) c.self.view_is in (
      omega (arith, many, c.requires, is.0, is.1, length-take c.self.inside.at c.self.inside.bytes),
      is.1,
      fewer_left c.self.inside.at c.args.len g.row.L c.self.inside.bytes is.2,
    )

pub returns-clause-written : goal.returns-clause-written
returns-clause-written g c =
    let is = c.self.invariant in
    let many = ap (λ (b : List ℕ). length b) c.self.view_is in
    zeros_next c.self.inside.at c.args.len g.row.L c.self.inside.bytes is.2
    (omega (arith, many, c.requires, is.0, is.1, length-take c.self.inside.at c.self.inside.bytes))
    ∙ ap (λ (b : List ℕ). b ++ zeros c.args.len) c.self.view_is
