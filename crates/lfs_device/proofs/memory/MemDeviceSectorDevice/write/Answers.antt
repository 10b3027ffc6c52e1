use Rattle.std.proofs.Common.{◌∙◌, inl, inr, refl, rules, length-set, subst, sym}
use Rattle.lfs_model.proofs.Moments.{grows_one}
use Rattle.lfs_model.proofs.UnitWrites.{to_unit}
use Rattle.lfs_device.specs.Bench.{HasNoFault}
use Rattle.lfs_device.specs.Units.{unit_of}
use Rattle.lfs_device.specs.declared.bench.DeviceCall.TheVariants as calls
use Rattle.lfs_device.proofs.Bearing.{bears_on, fault_fails}
use Rattle.lfs_device.proofs.Carried.{change_carries, counts_order, counts_same}
use Rattle.lfs_model.specs.Device.{AreSectorBytes, left_old}
use Rattle.lfs_device.proofs.Stops.{crash_write, crash_spreads, were_whole, present_set, present_same}
use Rattle.lfs_device.proofs.UnsyncedLists.{room_set}
use Rattle.lfs_device.proofs.Whole.{whole_row, whole_set, fits_set}
use Rattle.lfs_device.proofs.memory.MemDeviceSectorDevice.write.Goals as goal

pub returns-then-fails-clause-failed_write : goal.returns-then-fails-clause-failed_write
returns-then-fails-clause-failed_write c = λ kept.
    to_unit (unit_of c.args.self.now.units) _ _ _ _ (left_old (present_same _ _ _ c.index_mut-row.ensures.value refl))

pub returns-then-fails-clause-crash : goal.returns-then-fails-clause-crash
returns-then-fails-clause-crash c =
    crash_write _ c.note.ensures _ _ _ c.requires c.index_mut-row.ensures.value
    (record { synced = refl; written = refl; present = inl refl })

pub returns-clause-written : goal.returns-clause-written
returns-clause-written c = λ kept. present_set _ _ _

pub returns-clause-crash : goal.returns-clause-crash
returns-clause-crash c =
    crash_write _ c.note.ensures _ _ _ c.requires c.index_mut-row.ensures.value
    (record { synced = refl; written = refl; present = inr refl })

pub returns-then-fails-clause-spreads : goal.returns-then-fails-clause-spreads
returns-then-fails-clause-spreads c =
    crash_spreads _ c.note.ensures _ _ _ c.requires c.index_mut-row.ensures.value
    (record { synced = refl; written = refl; present = inl refl })

pub returns-clause-spreads : goal.returns-clause-spreads
returns-clause-spreads c =
    crash_spreads _ c.note.ensures _ _ _ c.requires c.index_mut-row.ensures.value
    (record { synced = refl; written = refl; present = inr refl })

pub invariant_of-self-clause-were_whole : goal.invariant_of-self-clause-were_whole
invariant_of-self-clause-were_whole c = were_whole c.note.ensures c.args.self.now.whole c.args.self.now.were_whole

pub invariant_of-self-2-clause-were_whole : goal.invariant_of-self-2-clause-were_whole
invariant_of-self-2-clause-were_whole c = were_whole c.note.ensures c.args.self.now.whole c.args.self.now.were_whole

pub returns-then-fails-clause-old_left : goal.returns-then-fails-clause-old_left
returns-then-fails-clause-old_left c = present_same _ _ _ c.index_mut-row.ensures.value refl

pub invariant_of-self-clause-whole : goal.invariant_of-self-clause-whole
invariant_of-self-clause-whole c =
    let was = whole_row c.args.self.now.rows.items c.args.sector c.index_mut-row.ensures.value c.args.self.now.whole c.requires in
    whole_set _ _ _ (record { present = was.present; synced = was.synced; written = record { size = search rules; each = c.fits-bytes } })
    c.args.self.now.whole

pub invariant_of-self-2-clause-whole : goal.invariant_of-self-2-clause-whole
invariant_of-self-2-clause-whole c =
    let was = whole_row c.args.self.now.rows.items c.args.sector c.index_mut-row.ensures.value c.args.self.now.whole c.requires in
    let bytes : AreSectorBytes c.args.bytes.now = record { size = search rules; each = c.fits-bytes } in
    whole_set _ _ _ (record { present = bytes; synced = was.synced; written = bytes }) c.args.self.now.whole

pub invariant_of-self-clause-fits : goal.invariant_of-self-clause-fits
invariant_of-self-clause-fits c = fits_set _ _ _ c.args.self.now.fits

pub invariant_of-self-2-clause-fits : goal.invariant_of-self-2-clause-fits
invariant_of-self-2-clause-fits c = fits_set _ _ _ c.args.self.now.fits

pub returns-then-fails-clause-carries : goal.returns-then-fails-clause-carries
returns-then-fails-clause-carries c =
    change_carries _ _ _ _ _ _ _ _ _ _ (length-set c.args.self.now.rows.items c.args.sector _) c.note.ensures
    (counts_order c.add_one.ensures c.add_one-then-fails.ensures
    (λ no_fault. fault_fails calls.Write no_fault (sym c.call-fails.ensures.fails ∙ c.if-fails.true)))
    (λ no_fault. subst HasNoFault (sym c.call-fails.ensures.after) (bears_on calls.Write no_fault))
    (grows_one _ _ _ c.tell_write.ensures)

pub returns-clause-carries : goal.returns-clause-carries
returns-clause-carries c =
    change_carries _ _ _ _ _ _ _ _ _ _ (length-set c.args.self.now.rows.items c.args.sector _) c.note.ensures counts_same
    (λ no_fault. subst HasNoFault (sym c.call-fails.ensures.after) (bears_on calls.Write no_fault))
    (grows_one _ _ _ c.tell_write.ensures)

pub invariant_of-self-clause-listed : goal.invariant_of-self-clause-listed
invariant_of-self-clause-listed c = c.list_sector.ensures.listed _ refl

pub invariant_of-self-2-clause-listed : goal.invariant_of-self-2-clause-listed
invariant_of-self-2-clause-listed c = c.list_sector.ensures.listed _ refl

pub invariant_of-self-clause-room : goal.invariant_of-self-clause-room
invariant_of-self-clause-room c = room_set _ _ _ _ c.list_sector.ensures.room

pub invariant_of-self-2-clause-room : goal.invariant_of-self-2-clause-room
invariant_of-self-2-clause-room c = room_set _ _ _ _ c.list_sector.ensures.room
