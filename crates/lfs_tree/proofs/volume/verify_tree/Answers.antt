use Rattle.lfs_verify.specs.declared.fault.MountFault.TheVariants as fault
use Rattle.lfs_model.proofs.Exits.{same_error}
use Rattle.lfs_tree.proofs.Exits.{same_fault}
use Rattle.lfs_tree.proofs.VolumeEnds.{fault_of_volume, few_clean, only_behind, refused_behind, refused_log, tree_found}
use Rattle.lfs_tree.proofs.volume.verify_tree.Goals as goal

pub returns-in_err-found-clause-reason : goal.returns-in_err-found-clause-reason
returns-in_err-found-clause-reason g c =
    same_error c.from_residual.result c.in_err-found.field-0.0 _ c.from_residual.ensures
    (refused_log (g.D.SectorDevice.state c.args.device.now) (g.D.SectorDevice.state c.verify_log.new.device) c.in_err-found.field-0.0
    c.in_err-found.ensures.reason)

pub returns-in_err-found-clause-cause : goal.returns-in_err-found-clause-cause
returns-in_err-found-clause-cause g c =
    let new = g.D.SectorDevice.state c.verify_log.new.device in
    same_error c.from_residual.result c.in_err-found.field-0.0 _ c.from_residual.ensures
    (fault_of_volume new (g.met.D.SectorDevice.lawful c.args.device.now) c.in_err-found.field-0.0
    (refused_log (g.D.SectorDevice.state c.args.device.now) new c.in_err-found.field-0.0 c.in_err-found.ensures.reason))

pub returns-in_err-found-clause-below_all : goal.returns-in_err-found-clause-below_all
returns-in_err-found-clause-below_all g c = λ low.
    let small = c.in_err-found.ensures.below_all low in
    let is = same_fault c.from_residual.result c.in_err-found.field-0.0 c.from_residual.ensures in
    (cc, small.1)

pub returns-in_err-check_tree-clause-reason : goal.returns-in_err-check_tree-clause-reason
returns-in_err-check_tree-clause-reason g c =
    same_error c.from_residual-in_err-check_tree.result c.in_err-check_tree.field-0.0 _ c.from_residual-in_err-check_tree.ensures
    (refused_behind c.verify_log.ensures.looks c.check_tree.ensures.looks c.in_ok-found.ensures.found
    c.in_err-check_tree.field-0.0 c.in_err-check_tree.ensures.reason)

pub returns-in_err-check_tree-clause-cause : goal.returns-in_err-check_tree-clause-cause
returns-in_err-check_tree-clause-cause g c =
    same_error c.from_residual-in_err-check_tree.result c.in_err-check_tree.field-0.0 _ c.from_residual-in_err-check_tree.ensures
    (fault_of_volume (g.D.SectorDevice.state c.check_tree.new.device) (g.met.D.SectorDevice.lawful c.args.device.now)
    c.in_err-check_tree.field-0.0
    (refused_behind c.verify_log.ensures.looks c.check_tree.ensures.looks
    c.in_ok-found.ensures.found c.in_err-check_tree.field-0.0 c.in_err-check_tree.ensures.reason))

pub returns-then-not-found-clause-reason : goal.returns-then-not-found-clause-reason
returns-then-not-found-clause-reason g c =
    few_clean c.verify_log.ensures.looks c.check_tree.ensures.looks c.in_ok-found.ensures.found c.in_ok-check_tree.ensures.tree
    c.if-not-found.true

pub returns-then-not-found-clause-cause : goal.returns-then-not-found-clause-cause
returns-then-not-found-clause-cause g c =
    fault_of_volume (g.D.SectorDevice.state c.check_tree.new.device) (g.met.D.SectorDevice.lawful c.args.device.now) (fault.Damaged 15)
    (few_clean c.verify_log.ensures.looks c.check_tree.ensures.looks c.in_ok-found.ensures.found c.in_ok-check_tree.ensures.tree
    c.if-not-found.true)

pub returns-clause-found : goal.returns-clause-found
returns-clause-found g c =
    tree_found c.verify_log.ensures.looks c.check_tree.ensures.looks c.in_ok-found.ensures.found c.in_ok-check_tree.ensures.tree
    c.if-not-found.false

pub returns-clause-durable : goal.returns-clause-durable
returns-clause-durable g c =
    only_behind c.verify_log.ensures.looks c.check_tree.ensures.looks c.in_ok-found.ensures.found c.in_ok-found.ensures.durable
