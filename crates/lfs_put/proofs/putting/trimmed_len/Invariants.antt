use Rattle.std.proofs.Common.{◌≡◌, ◌≤◌, ◌<◌, ◌-◌, ℕ, length, slice_index}
use Rattle.lfs_put.proofs.putting.trimmed_len.Given as goal

-- so many slashes end the path
abbrev pub invariant-loop-slashes : goal.invariant-loop-slashes
invariant-loop-slashes l = (i : ℕ) → length l.path - l.slashes ≤ i → i < length l.path → slice_index l.path i ≡ 47
