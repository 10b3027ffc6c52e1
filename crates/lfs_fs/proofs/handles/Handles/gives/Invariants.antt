use Rattle.lfs_fs.proofs.Prelude.{◌<◌, ℕ, None, get_or, HasNumber}
use Rattle.lfs_fs.proofs.handles.Handles.gives.Given as goal

abbrev pub invariant-loop-handle : goal.invariant-loop-handle
invariant-loop-handle l = (k : ℕ) → k < l.handle → HasNumber (get_or l.self-inside.files.items k None) l.file.value → ⊥
