use Rattle.std.proofs.Common.{◌≡◌, ◌*◌, vec_len}
use Rattle.lfs_inodes.proofs.Maps.{IsLoading}
use Rattle.lfs_inodes.proofs.map.InodeMap.load.Given as goal

abbrev pub invariant-loop-place : goal.invariant-loop-place
invariant-loop-place l = record {
  size : vec_len l.self-inside.addresses ≡ 4096;
  loading : IsLoading l.initial.self-inside.addresses.items l.self-inside.addresses.items (128 * l.index) l.place l.block;
  hidden : l.self-inside.hidden ≡ l.initial.self-inside.hidden;
  blocks : l.self-inside.blocks ≡ l.initial.self-inside.blocks;
}
