use Rattle.std.proofs.Common.{drop}
use Rattle.lfs_memory.proofs.Applied.{HeadersSoFar}
use Rattle.lfs_memory.proofs.applying.apply_headers.Given as goal

abbrev pub invariant-loop-edit : goal.invariant-loop-edit
invariant-loop-edit l = HeadersSoFar l.initial.memory l.memory l.edits (drop l.edit-index l.edits) l.edit-index
