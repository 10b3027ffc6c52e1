use Rattle.std.proofs.Common.{◌∙◌, ap, sym, Some, [], arith}
use Rattle.std.proofs.lemmas.List.{get_or_default}
use Rattle.lfs_inodes.proofs.Blocks.{find_gap, entry_found}
use Rattle.lfs_inodes.proofs.Held.{low_at, found_at}
use Rattle.lfs_inodes.proofs.table.DirtyTable.block.Goals as goal

pub returns-in_default-clause-block : goal.returns-in_default-clause-block
returns-in_default-clause-block c = find_gap c.in_default.ensures.missing

pub returns-in_default-clause-entry : goal.returns-in_default-clause-entry
returns-in_default-clause-entry c = entry_found c.args.self.now.blocks c.args.key.formed ∙ returns-in_default-clause-block c

pub index-requires : goal.index-requires
index-requires c =
    let l = low_at c.self.invariant.0 c.self.view_is c.in-Ok.ensures.found c.get.ensures in
    omega arith

pub returns-clause-block : goal.returns-clause-block
returns-clause-block c =
    let l = low_at c.self.invariant.0 c.self.view_is c.in-Ok.ensures.found c.get.ensures in
    found_at c.self.invariant.0 c.self.view_is c.in-Ok.ensures.found c.get.ensures
    ∙ ap (λ b. Some b)
    (get_or_default c.self.inside.arena.items c.get.result.spot [] c.index.result.now l ∙ sym c.index.ensures)

pub returns-clause-entry : goal.returns-clause-entry
returns-clause-entry c = entry_found c.args.self.now.blocks c.args.key.formed ∙ returns-clause-block c
