use Rattle.std.proofs.Common.{rules, ◌≡◌, ◌*◌, List, ℕ, length, arith, ap, length-take}
use Rattle.lfs_layout.proofs.Unwritten.{left_behind}
use Rattle.lfs_layout.proofs.writer.Writer.words.Goals as goal

pub invariant_of-self : goal.invariant_of-self
invariant_of-self g c =
    let is = c.self.invariant in
    let many = ap (λ (b : List ℕ). length b) c.self.view_is in
    let room = length-take c.self.inside.at c.self.inside.bytes in
    let long : length c.write_u32_into.new.dst ≡ 4 * length c.args.numbers.now = search rules in (
      omega (arith, many, c.requires, is.0, is.1, room),
      search rules,
      left_behind c.self.inside.at (4 * length c.args.numbers.now) g.row.L c.self.inside.bytes is.2 c.write_u32_into.new.dst
          (omega (arith, is.0, is.1)) long,
    )
