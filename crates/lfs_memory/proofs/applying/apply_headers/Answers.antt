use Rattle.std.proofs.Common.{rules}
use Rattle.lfs_memory.proofs.Applied.{headers_then}
use Rattle.lfs_memory.proofs.applying.apply_headers.Goals as goal

pub loop-edit-preserved : goal.loop-edit-preserved
loop-edit-preserved c =
    headers_then c.loop-edit-test.true (search rules) c.loop-edit.invariant _ c.in_ok-apply_header.ensures.done
