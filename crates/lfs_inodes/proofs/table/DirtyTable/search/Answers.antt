use Rattle.lfs_inodes.proofs.Searching.{found_in, missing_in, places_rise}
use Rattle.lfs_inodes.proofs.table.DirtyTable.search.Goals as goal

pub returns-clause-found : goal.returns-clause-found
returns-clause-found c =
    found_in _ c.self.inside.places.items c.self.inside.arena.items c.self.view_is c.args.key.code c.search.result c.search.ensures.found

pub returns-clause-missing : goal.returns-clause-missing
returns-clause-missing c =
    missing_in _ c.self.inside.places.items c.self.inside.arena.items c.self.view_is c.args.key.code c.search.result
    (c.search.ensures.missing (places_rise c.self.inside.places.items c.self.inside.arena.items c.self.invariant.0.sorted))
