use Rattle.std.proofs.Common.{sym, subst}
use Rattle.lfs_model.specs.Running.{IsTight}
use Rattle.lfs_inodes.specs.Blocks.{blocks_of}
use Rattle.lfs_inodes.proofs.table.DirtyTable.set_tight.Goals as goal

pub invariant_of-self : goal.invariant_of-self
invariant_of-self c = (c.self.invariant.0, λ h. subst (λ t. IsTight (blocks_of t)) (sym c.self.view_is) c.requires)
