use Rattle.std.proofs.Common.{length, refl}
use Rattle.std.specs.Prelude.{is_some}
use Rattle.std.specs.Ordering.{nat_cmp}
use Rattle.std.specs.FinMap.{find}
use Rattle.lfs_model.specs.Fields.{zeros}
use Rattle.lfs_memory.proofs.changing.grow.Goals as goal
use Rattle.lfs_memory.proofs.Keys.{at_most_one, leaf_low}
use Rattle.lfs_memory.proofs.Looses.{stays_put}

pub returns : goal.returns
unfolding zeros
returns c = record {
  stays = stays_put 1 _ refl refl c.fetch.ensures.capacity (rw c.fetch.ensures.length
      (at_most_one (is_some (find nat_cmp c.args.key.code c.args.memory.now.dirty.blocks)) (length c.args.memory.now.dirty.blocks)));
  map = refl;
  usage = refl;
  low = leaf_low c.args.key.formed;
  comes = c.fetch.ensures.fetches;
}
