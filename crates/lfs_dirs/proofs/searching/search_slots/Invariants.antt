use Rattle.std.proofs.Common.{◌≡◌, ◌-◌}
use Rattle.std.specs.FinMap.{find}
use Rattle.lfs_model.specs.Tree.{byte_cmp}
use Rattle.lfs_model.specs.TreeOf.{map_of}
use Rattle.lfs_dirs.specs.Directory.{first_slots, slots_in}
use Rattle.lfs_dirs.proofs.searching.search_slots.Given as goal

abbrev pub invariant-loop-place : goal.invariant-loop-place
invariant-loop-place l = find byte_cmp l.name (map_of l.form (slots_in l.form l.block l.place (l.count - l.place)))
    ≡ find byte_cmp l.name (map_of l.form (first_slots l.form l.block l.count))
