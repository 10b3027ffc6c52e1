use Rattle.lfs_device.proofs.RunTests.{has_sector}
use Rattle.lfs_device.proofs.unsent.Unsent.has.Goals as goal

pub returns-then-self-sector : goal.returns-then-self-sector
returns-then-self-sector c = has_sector c.args.self.now c.args.sector c.if-self-sector.true
