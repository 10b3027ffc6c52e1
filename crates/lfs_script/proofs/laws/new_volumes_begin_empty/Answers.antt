use Rattle.lfs_model.proofs.Uses.{begins_new, new_is_pending}
use Rattle.lfs_script.proofs.laws.new_volumes_begin_empty.Goals as goal

pub returns-clause-begins : goal.returns-clause-begins
returns-clause-begins g c =
    λ version N p. begins_new version N p (g.D.SectorDevice.state c.args.device.now)
    (g.D.SectorDevice.state c.args.used.now)

pub returns-clause-pending : goal.returns-clause-pending
returns-clause-pending g c = λ version N p. new_is_pending version N p (g.D.SectorDevice.state c.args.device.now)
