use Rattle.std.proofs.Common.{Err, ap, sym}
use Rattle.lfs_volume.proofs.Slots.{none_older}
use Rattle.lfs_volume.proofs.finding.holds_older.Goals as goal

pub returns-in-Err-Unreadable-clause-holds : goal.returns-in-Err-Unreadable-clause-holds
returns-in-Err-Unreadable-clause-holds g c keeps =
    let content = (g.D.SectorDevice.state c.args.device.now).content in
    let none = c.in-Err-Unreadable.ensures.unreadable (ap Err c.in-Err-Unreadable.field-0-is) keeps in
    sym (none_older content c.args.place c.args.parity none)
