use Rattle.std.proofs.Common.{◌≤◌, length, drop}
use Rattle.lfs_store.specs.Drafting.{NoHeader}
use Rattle.lfs_store.proofs.draft.last_header.Given as goal

abbrev pub invariant-loop-place : goal.invariant-loop-place
invariant-loop-place l = (l.place ≤ length l.edits) × NoHeader l.number (drop l.place l.edits)

abbrev pub decreases-loop-place : goal.decreases-loop-place
decreases-loop-place l = l.place
