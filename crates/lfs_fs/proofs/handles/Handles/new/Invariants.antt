use Rattle.lfs_fs.proofs.Prelude.{◌≡◌, None, replicate}
use Rattle.lfs_fs.proofs.handles.Handles.new.Given as goal

abbrev pub invariant-loop : goal.invariant-loop
invariant-loop l = l.files.items ≡ replicate l.counter None
