use Rattle.std.proofs.Common.{None, arith, sym, subst}
use Rattle.lfs_device.specs.Rows.{IsSectorRow}
use Rattle.lfs_device.proofs.Stops.{lost_row, lost_leaves}
use Rattle.lfs_device.proofs.UnsyncedLists.{let_go_of, room_set}
use Rattle.lfs_device.proofs.Whole.{fits_set, whole_at, whole_set}
use Rattle.lfs_device.proofs.memory.MemDevice.set_unreadable.Goals as goal

pub returns-clause-lost : goal.returns-clause-lost
returns-clause-lost c = lost_row _ _ _ c.stands.ensures

pub returns-clause-durable : goal.returns-clause-durable
returns-clause-durable c = lost_leaves _ c.note.ensures _ _ c.requires c.stands.ensures

pub invariant_of-self-clause-listed : goal.invariant_of-self-clause-listed
invariant_of-self-clause-listed c = let_go_of _ c.args.self.now.listed c.requires _ c.let_go.ensures.others c.stands.ensures

pub invariant_of-self-clause-room : goal.invariant_of-self-clause-room
invariant_of-self-clause-room c =
    room_set _ _ _ _ (let room = c.args.self.now.room in let kept = c.let_go.ensures.room in omega (arith, room, kept))

pub invariant_of-self-clause-fits : goal.invariant_of-self-clause-fits
invariant_of-self-clause-fits c = fits_set _ _ _ c.args.self.now.fits

pub invariant_of-self-clause-whole : goal.invariant_of-self-clause-whole
invariant_of-self-clause-whole c = whole_set _ _ _ (subst IsSectorRow (sym c.stands.ensures) (whole_at None tt)) c.args.self.now.whole
