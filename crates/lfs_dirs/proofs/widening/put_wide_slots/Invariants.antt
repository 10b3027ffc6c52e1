use Rattle.std.proofs.Common.{◌≡◌, ◌+◌, ◌*◌, length}
use Rattle.std.specs.Prelude.{min}
use Rattle.lfs_model.specs.Tree.{slot_len}
use Rattle.lfs_dirs.proofs.Widenings.{WideTo}
use Rattle.lfs_dirs.proofs.widening.put_wide_slots.Given as goal

abbrev pub invariant-loop-place : goal.invariant-loop-place
invariant-loop-place l = (length l.slots.items ≡ length l.initial.slots.items + slot_len 1 * min l.count l.place)
    × WideTo l.form l.block l.count l.initial.slots.items l.place l.slots.items
