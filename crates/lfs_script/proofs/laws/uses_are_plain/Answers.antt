use Rattle.lfs_model.proofs.Uses.{uses_are_plain}
use Rattle.lfs_script.proofs.laws.uses_are_plain.Goals as goal

pub returns : goal.returns
returns g c =
    uses_are_plain (g.D.SectorDevice.state c.args.device.now) (g.met.D.SectorDevice.lawful c.args.used.now)
