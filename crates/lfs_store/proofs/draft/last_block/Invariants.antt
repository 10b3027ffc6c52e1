use Rattle.std.proofs.Common.{◌≤◌, length, drop}
use Rattle.lfs_store.specs.Drafting.{NoBlock}
use Rattle.lfs_store.proofs.draft.last_block.Given as goal

abbrev pub invariant-loop-place : goal.invariant-loop-place
invariant-loop-place l = (l.place ≤ length l.edits) × NoBlock l.number l.index (drop l.place l.edits)

abbrev pub decreases-loop-place : goal.decreases-loop-place
decreases-loop-place l = l.place
