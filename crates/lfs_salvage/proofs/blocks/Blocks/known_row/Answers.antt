use Rattle.std.proofs.Common.{rules, ◌-◌, arith}
use Rattle.lfs_salvage.specs.Blocks.{row_place}
use Rattle.lfs_salvage.proofs.Pointed.{row_in_root}
use Rattle.lfs_salvage.proofs.blocks.Blocks.known_row.Goals as goal

pub returns : goal.returns
returns c content follows =
    let some = c.if-place-eq0.false in
    row_in_root content c.args.self.now.inode {q = row_place c.args.self.now.next} (c.row_place-place.result - 1) {root = c.in_ok-root.root}
    c.address_at.result (omega (arith, some, c.row_place-place.ensures)) (search rules) c.address_at.ensures
