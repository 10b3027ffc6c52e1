use Rattle.lfs_store.proofs.of_log.WholeUnits.{sectors_whole}
use Rattle.lfs_log_tests.proofs.log_steps.mounted.Goals as goal

pub open_with-requires-clause-units : goal.open_with-requires-clause-units
open_with-requires-clause-units g c = sectors_whole (g.D.SectorDevice.state c.new-device.result)
