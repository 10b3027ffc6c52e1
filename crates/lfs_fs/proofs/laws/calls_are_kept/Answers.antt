use Rattle.lfs_fs.proofs.CallRuns.{calls_are_kept}
use Rattle.lfs_fs.proofs.laws.calls_are_kept.Goals as goal

pub returns : goal.returns
returns g c = calls_are_kept g.met.D.SectorDevice.lawful
