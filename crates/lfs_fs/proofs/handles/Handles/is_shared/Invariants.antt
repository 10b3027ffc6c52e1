use Rattle.lfs_fs.proofs.Prelude.{◌≢◌, ◌<◌, ℕ, None, get_or, HasNumber}
use Rattle.lfs_fs.proofs.handles.Handles.is_shared.Given as goal

abbrev pub invariant-loop-other : goal.invariant-loop-other
invariant-loop-other l = (k : ℕ) → k < l.other → k ≢ l.handle → HasNumber (get_or l.self-inside.files.items k None) l.file.value → ⊥
