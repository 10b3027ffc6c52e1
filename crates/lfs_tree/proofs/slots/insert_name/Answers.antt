use Rattle.lfs_tree.proofs.SetNames.{name_more}
use Rattle.lfs_tree.proofs.slots.insert_name.Goals as goal

pub returns-clause-more : goal.returns-clause-more
returns-clause-more c ms v had =
    name_more c.args.names.now c.in_ok-name.name (c.in_ok-name.ensures.items_if_clones_equal (λ x y same. same)) ms had c.insert.new.self v
    (c.in-Ok.ensures.updates.0)
