use Rattle.lfs_device.proofs.Carried.{call_carries}
use Rattle.lfs_device.proofs.KeptRuns.{sent_by_sync}
use Rattle.lfs_device.proofs.Syncs.{synced_untouched}
use Rattle.lfs_device.proofs.file.FileDeviceInSectorDevice.sync.Goals as goal

pub returns-clause-untouched : goal.returns-clause-untouched
returns-clause-untouched g c =
    synced_untouched (g.W.World.fate c.args.self.now.opened.value c.args.self.now.sectors) _ c.in_default.ensures.synced

pub returns-clause-carries : goal.returns-clause-carries
returns-clause-carries g c =
    call_carries (g.W.World.fate c.args.self.now.opened.value c.args.self.now.sectors) _ _ c.in_default.ensures.synced

pub returns-clause-sent : goal.returns-clause-sent
returns-clause-sent g c = sent_by_sync c.in_default.ensures.made
