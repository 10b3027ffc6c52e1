use Rattle.std.proofs.Common.{◌≡◌, length}
use Rattle.std.specs.Option.{option_map}
use Rattle.lfs_model.specs.Staging.{ChangesTo}
use Rattle.lfs_inodes.specs.Key.{entry_of}
use Rattle.lfs_inodes.specs.Blocks.{blocks_of}
use Rattle.lfs_inodes.specs.Clearing.{zeroed}
use Rattle.lfs_inodes.proofs.table.DirtyTable.clear_words.Given as goal

abbrev pub invariant-loop-i : goal.invariant-loop-i
invariant-loop-i l = record {
  changed : ChangesTo (blocks_of l.initial.self) (blocks_of l.self) (entry_of l.key)
      (option_map (zeroed l.first l.i) (blocks_of l.initial.self (entry_of l.key)));
  length : length l.self.blocks ≡ length l.initial.self.blocks;
  capacity : l.self.capacity ≡ l.initial.self.capacity;
}
