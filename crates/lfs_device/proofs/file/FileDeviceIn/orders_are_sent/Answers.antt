use Rattle.std.proofs.Common.{◌*◌, ap, arith, drop, length, subst, sym}
use Rattle.lfs_model.specs.declared.limits.TheConstants.{SECTOR_LEN}
use Rattle.lfs_device.specs.FileDevice.{events_of, host_calls_of, run_of}
use Rattle.lfs_device.specs.Runs.{Run}
use Rattle.lfs_device.specs.Sent.{AreSentOrKept}
use Rattle.lfs_device.proofs.KeptRuns.{last_is, others_none, told_same}
use Rattle.lfs_device.proofs.RunBytes.{length_sectors}
use Rattle.lfs_device.proofs.Sending.{sent_or_kept}
use Rattle.lfs_device.proofs.file.FileDeviceIn.orders_are_sent.Goals as goal

pub returns-clause-sent : goal.returns-clause-sent
returns-clause-sent g c =
    subst (AreSentOrKept (host_calls_of c.args.self.now) (run_of c.args.self.now)) (sym (told_same (events_of c.args.self.now)))
    (sent_or_kept c.args.self.now.sectors (events_of c.args.self.now) c.args.self.now.in_order)

pub returns-clause-few : goal.returns-clause-few
returns-clause-few g c =
    let file = c.args.self.now.file in
    let same = ap (λ (run : Run). length run.sectors) file.same in
    let places = drop (SECTOR_LEN * file.unsent.ahead) file.unsent.bytes.items in
    omega (arith, same, file.few, length_sectors SECTOR_LEN file.unsent.count places)

pub returns-clause-told : goal.returns-clause-told
returns-clause-told g c = told_same (events_of c.args.self.now)

pub returns-clause-last : goal.returns-clause-last
returns-clause-last g c = last_is c.args.self.now.sectors (events_of c.args.self.now) c.args.self.now.in_order

pub returns-clause-others : goal.returns-clause-others
returns-clause-others g c = others_none c.args.self.now.sectors (events_of c.args.self.now) c.args.self.now.in_order
