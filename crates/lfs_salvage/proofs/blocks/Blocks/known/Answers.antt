use Rattle.std.proofs.Common.{rules, ◌%◌, ◌∙◌, ap, arith}
use Rattle.lfs_salvage.specs.declared.blocks.Blocks.{Blocks}
use Rattle.lfs_salvage.proofs.Pointed.{block_in_row}
use Rattle.lfs_salvage.proofs.blocks.Blocks.known.Goals as goal

pub returns : goal.returns
returns c content follows =
    let high = c.if-self-lt-DIRECT_BLOCKS.false in
    let is = ap (λ (b : Blocks). b.next) c.self.view_is in
    block_in_row content c.args.self.now.inode c.args.self.now.next (c.behind.result % 128) c.in_ok-row.row c.address_at-2.result
    (omega (arith, high, is)) (c.if-row-row_place.false ∙ c.row_place.ensures) (search rules) (ap (λ n. n % 128) c.behind.ensures)
    c.address_at-2.ensures
