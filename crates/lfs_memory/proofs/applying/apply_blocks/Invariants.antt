use Rattle.std.proofs.Common.{drop}
use Rattle.lfs_memory.proofs.Applied.{BlocksSoFar}
use Rattle.lfs_memory.proofs.applying.apply_blocks.Given as goal

abbrev pub invariant-loop-edit : goal.invariant-loop-edit
invariant-loop-edit l = BlocksSoFar l.initial.memory l.memory l.edits (drop l.edit-index l.edits) l.edit-index
