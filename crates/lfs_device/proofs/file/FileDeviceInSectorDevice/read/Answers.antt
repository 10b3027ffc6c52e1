use Rattle.lfs_device.proofs.KeptRuns.{keeps_answers}
use Rattle.lfs_device.proofs.file.FileDeviceInSectorDevice.read.Goals as goal

pub returns-clause-from_run : goal.returns-clause-from_run
returns-clause-from_run g c = keeps_answers (g.W.World.fate c.args.self.now.opened.value c.args.self.now.sectors)
    c.args.sector c.read.new.out c.in_default.ensures.made c.args.self.now.in_order
