use Rattle.std.proofs.Common.{◌≡◌, ◌++◌, ◌∷◌, []}
use Rattle.lfs_inodes.proofs.Held.{times_last}
use Rattle.lfs_inodes.proofs.table.store.Goals as goal

pub index_mut-requires : goal.index_mut-requires
index_mut-requires c =
    let was : c.args.spare.now.items ≡ c.pop.new.self.items ++ c.in-Some.spot ∷ [] = rw c.in-Some.is at c.pop.ensures.items in
    c.requires.low c.in-Some.spot (times_last c.pop.new.self.items c.in-Some.spot was)
