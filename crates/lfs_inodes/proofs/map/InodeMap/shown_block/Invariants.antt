use Rattle.std.proofs.Common.{◌≡◌, ◌<◌, ◌+◌, ◌*◌, ℕ, get_or, length}
use Rattle.lfs_inodes.specs.MapValue.{shown_in}
use Rattle.lfs_inodes.proofs.map.InodeMap.shown_block.Given as goal

abbrev pub invariant-loop-place : goal.invariant-loop-place
invariant-loop-place l = record {
  size : length l.shown ≡ 128;
  shown : (k : ℕ) → k < l.place → get_or l.shown k 0 ≡ shown_in l.self (128 * l.index + k);
}
