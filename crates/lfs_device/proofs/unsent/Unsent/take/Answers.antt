use Rattle.lfs_device.proofs.RunTests.{next, room, within}
use Rattle.lfs_device.proofs.unsent.Unsent.take.Goals as goal

pub put_before-requires-clause-room : goal.put_before-requires-clause-room
put_before-requires-clause-room c =
    let at = next c.args.self.now c.args.sector c.requires.takes c.first_with-first.ensures c.if-sector-first.true in at.0

pub place-requires-clause-next : goal.place-requires-clause-next
place-requires-clause-next c = within c.args.self.now c.args.sector c.requires.takes c.first_with-first.ensures

pub place-requires-clause-low : goal.place-requires-clause-low
place-requires-clause-low c = room c.args.self.now c.args.sector c.requires.takes c.first_with-first.ensures c.if-sector-first.false
