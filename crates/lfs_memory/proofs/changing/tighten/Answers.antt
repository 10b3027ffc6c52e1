use Rattle.std.proofs.Common.{refl, ◌∙◌, arith}
use Rattle.lfs_inodes.specs.Key.{entry_of}
use Rattle.lfs_memory.specs.Changing.{Prunes}
use Rattle.lfs_memory.proofs.changing.tighten.Goals as goal

pub loop-key-init : goal.loop-key-init
loop-key-init c = record { prunes = Prunes.nothing; map = refl; usage = refl; chunk = refl; capacity = refl; blocks = omega arith }

pub loop-key-preserved : goal.loop-key-preserved
loop-key-preserved c = record {
  prunes = Prunes.more c.loop-key.memory.dirty _ (entry_of c.in-Some.key) c.loop-key.invariant.prunes c.in-Some.ensures.empty
      c.moved.ensures.moves;
  map = c.loop-key.invariant.map;
  usage = c.loop-key.invariant.usage;
  chunk = c.loop-key.invariant.chunk;
  capacity = c.moved.ensures.capacity ∙ c.loop-key.invariant.capacity;
  blocks = omega arith;
}
