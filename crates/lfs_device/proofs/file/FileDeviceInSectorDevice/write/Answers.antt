use Rattle.lfs_device.proofs.Carried.{call_carries, refused_may}
use Rattle.lfs_device.proofs.file.FileDeviceInSectorDevice.write.Goals as goal

pub returns-in-Err-clause-failed_write : goal.returns-in-Err-clause-failed_write
returns-in-Err-clause-failed_write g c = λ keeps.
    refused_may (g.W.World.fate c.args.self.now.opened.value c.args.self.now.sectors) _ _ _ c.in-Err.ensures.refused

pub returns-in-Err-clause-carries : goal.returns-in-Err-clause-carries
returns-in-Err-clause-carries g c =
    call_carries (g.W.World.fate c.args.self.now.opened.value c.args.self.now.sectors) _ _ c.in-Err.ensures.refused

pub returns-clause-carries : goal.returns-clause-carries
returns-clause-carries g c =
    call_carries (g.W.World.fate c.args.self.now.opened.value c.args.self.now.sectors) _ _ c.in_default.ensures.written
