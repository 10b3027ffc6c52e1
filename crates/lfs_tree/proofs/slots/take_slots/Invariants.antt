use Rattle.std.proofs.Common.{◌≤◌, ◌-◌, true}
use Rattle.lfs_dirs.specs.Directory.{slots_in}
use Rattle.lfs_tree.specs.Naming.{TakesSlots}
use Rattle.lfs_tree.proofs.slots.take_slots.Given as goal

abbrev pub invariant-loop-place : goal.invariant-loop-place
invariant-loop-place l = record {
  low : l.place ≤ l.count;
  takes : TakesSlots l.form l.headers l.directory.value (slots_in l.form l.block l.place (l.count - l.place)) l.initial.names l.names
      l.initial.tables l.tables true;
}

abbrev pub decreases-loop-place : goal.decreases-loop-place
decreases-loop-place l = l.place
