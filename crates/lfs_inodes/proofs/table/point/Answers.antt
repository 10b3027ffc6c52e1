use Rattle.std.proofs.Common.{rules, sym, subst}
use Rattle.lfs_model.specs.Memory.{HasPointer, patched}
use Rattle.lfs_model.proofs.Filled.{pointer_patched}
use Rattle.lfs_inodes.proofs.table.point.Goals as goal

pub returns-clause-leads : goal.returns-clause-leads
unfolding patched
returns-clause-leads c some = subst HasPointer (sym c.set_word.ensures)
    (pointer_patched c.args.place c.args.number c.args.block.now (search rules) c.requires some (search rules))
