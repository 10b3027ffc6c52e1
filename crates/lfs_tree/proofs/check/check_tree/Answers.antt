use Rattle.std.proofs.lemmas.Result.{IfErr-weaker, on_ok_weaker}
use Rattle.lfs_tree.proofs.CheckSteps.{is_of_log, refused_tree, sees_log, tree_of}
use Rattle.lfs_tree.proofs.check.check_tree.Goals as goal

pub returns-clause-tree : goal.returns-clause-tree
returns-clause-tree g c = on_ok_weaker c.check_stages.result (λ done keeps has.
    let old = g.D.SectorDevice.state c.args.device.now in
    let new = g.D.SectorDevice.state c.check_stages.new.device in
    let lawful = g.met.D.SectorDevice.lawful c.args.device.now in
    tree_of old new c.args.tables.now lawful keeps has
    (done has.checkpoint _ (sees_log old new c.args.tables.now lawful keeps has)
    (is_of_log old new c.args.tables.now lawful keeps has) c.in-Ok-new.ensures.empty))
    c.check_stages.ensures.done

pub returns-clause-reason : goal.returns-clause-reason
returns-clause-reason g c = IfErr-weaker c.check_stages.result _ _ (λ fault reason keeps has.
    let old = g.D.SectorDevice.state c.args.device.now in
    let new = g.D.SectorDevice.state c.check_stages.new.device in
    let lawful = g.met.D.SectorDevice.lawful c.args.device.now in
    refused_tree old new c.args.tables.now lawful keeps has fault
    (reason has.checkpoint _ (sees_log old new c.args.tables.now lawful keeps has)
    (is_of_log old new c.args.tables.now lawful keeps has) c.in-Ok-new.ensures.empty))
    c.check_stages.ensures.reason
