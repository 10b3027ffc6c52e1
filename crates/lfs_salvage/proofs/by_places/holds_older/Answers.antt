use Rattle.std.proofs.Common.{sym}
use Rattle.lfs_volume.proofs.Slots.{none_older}
use Rattle.lfs_salvage.proofs.by_places.holds_older.Goals as goal

pub returns-in_default-clause-holds : goal.returns-in_default-clause-holds
returns-in_default-clause-holds g c keeps same =
    let content = (g.D.SectorDevice.state c.args.device.now).content in
    sym (none_older content c.args.place c.args.slot (c.in_default.ensures.none keeps same))
