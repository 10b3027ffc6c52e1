use Rattle.std.proofs.Common.{◌≤◌, ◌-◌}
use Rattle.lfs_dirs.specs.Directory.{slots_in}
use Rattle.lfs_dirs.specs.Listing.{PutsSlots}
use Rattle.lfs_dirs.proofs.listing.put_slots.Given as goal

abbrev pub invariant-loop-place : goal.invariant-loop-place
invariant-loop-place l = (l.place ≤ l.count)
    × PutsSlots l.form (slots_in l.form l.block l.place (l.count - l.place)) l.initial.entries.items l.entries.items

abbrev pub decreases-loop-place : goal.decreases-loop-place
decreases-loop-place l = l.place
