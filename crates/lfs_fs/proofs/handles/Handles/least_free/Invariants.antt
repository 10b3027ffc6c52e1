use Rattle.std.proofs.Common.{◌≢◌, ◌<◌, ℕ, None, get_or}
use Rattle.lfs_fs.proofs.handles.Handles.least_free.Given as goal

abbrev pub invariant-loop-handle : goal.invariant-loop-handle
invariant-loop-handle l = (k : ℕ) → k < l.handle → get_or l.self-inside.files.items k None ≢ None
