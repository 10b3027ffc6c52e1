use Rattle.std.proofs.Common.{◌<◌, ℕ, get_or}
use Rattle.lfs_model.specs.declared.Order.TheVariants as order_of
use Rattle.lfs_queue.specs.Carrying.{IsWithin}
use Rattle.lfs_queue.proofs.carrying.are_within.Given as goal

abbrev pub invariant-loop-order : goal.invariant-loop-order
invariant-loop-order l = (i : ℕ) → i < l.order-index → IsWithin l.sectors (get_or l.orders i order_of.Sync)
