use Rattle.std.proofs.Common.{◌∙◌, arith}
use Rattle.lfs_format.proofs.FirstPlaces.{apart_cleared, first_cleared, second_cleared}
use Rattle.lfs_format.proofs.FirstSlots.{clears_begin, clears_still, clears_write, touches_one}
use Rattle.lfs_format.proofs.FirstWrites.{all_cleared, apart_leaves}
use Rattle.lfs_format.proofs.making.clear_slots.Goals as goal

pub returns-in_err-write_durably-clause-any_moment : goal.returns-in_err-write_durably-clause-any_moment
returns-in_err-write_durably-clause-any_moment g c sectors keeps =
    apart_leaves (g.met.D.SectorDevice.lawful c.args.device.now) c.requires sectors c.write_durably.ensures.any_moment

pub returns-in_err-write_durably-clause-touched : goal.returns-in_err-write_durably-clause-touched
returns-in_err-write_durably-clause-touched g c sectors =
    touches_one 128 apart_cleared sectors c.write_durably.ensures.any_moment

pub returns-in_err-write-clause-any_moment : goal.returns-in_err-write-clause-any_moment
returns-in_err-write-clause-any_moment g c sectors keeps =
    let lawful = g.met.D.SectorDevice.lawful c.args.device.now in
    let first = c.in_ok-write_durably.ensures in
    let one = clears_begin lawful c.requires first.any_moment first.carries first.content first.durable in
    let two = clears_write 0 first_cleared (omega arith) lawful (g.met.D.SectorDevice.lawful _) c.requires one c.write.ensures.crash
    c.write.ensures.carries c.write.ensures.time in
    (two.slots sectors keeps).run.leaves

pub returns-in_err-write-clause-touched : goal.returns-in_err-write-clause-touched
returns-in_err-write-clause-touched g c =
    let lawful = g.met.D.SectorDevice.lawful c.args.device.now in
    let first = c.in_ok-write_durably.ensures in
    let one = clears_begin lawful c.requires first.any_moment first.carries first.content first.durable in
    let two = clears_write 0 first_cleared (omega arith) lawful (g.met.D.SectorDevice.lawful _) c.requires one c.write.ensures.crash
    c.write.ensures.carries c.write.ensures.time in
    two.touched

pub returns-in_err-write-2-clause-any_moment : goal.returns-in_err-write-2-clause-any_moment
returns-in_err-write-2-clause-any_moment g c sectors keeps =
    let lawful = g.met.D.SectorDevice.lawful c.args.device.now in
    let first = c.in_ok-write_durably.ensures in
    let one = clears_begin lawful c.requires first.any_moment first.carries first.content first.durable in
    let two = clears_write 0 first_cleared (omega arith) lawful (g.met.D.SectorDevice.lawful _) c.requires one c.write.ensures.crash
    c.write.ensures.carries c.write.ensures.time in
    let second = c.write-2.ensures in
    let three = clears_write 1 second_cleared (omega arith) lawful (g.met.D.SectorDevice.lawful _) c.requires two second.crash
    second.carries second.time in
    (three.slots sectors keeps).run.leaves

pub returns-in_err-write-2-clause-touched : goal.returns-in_err-write-2-clause-touched
returns-in_err-write-2-clause-touched g c =
    let lawful = g.met.D.SectorDevice.lawful c.args.device.now in
    let first = c.in_ok-write_durably.ensures in
    let one = clears_begin lawful c.requires first.any_moment first.carries first.content first.durable in
    let two = clears_write 0 first_cleared (omega arith) lawful (g.met.D.SectorDevice.lawful _) c.requires one c.write.ensures.crash
    c.write.ensures.carries c.write.ensures.time in
    let second = c.write-2.ensures in
    let three = clears_write 1 second_cleared (omega arith) lawful (g.met.D.SectorDevice.lawful _) c.requires two second.crash
    second.carries second.time in
    three.touched

pub returns-in_err-sync-clause-any_moment : goal.returns-in_err-sync-clause-any_moment
returns-in_err-sync-clause-any_moment g c sectors keeps =
    let lawful = g.met.D.SectorDevice.lawful c.args.device.now in
    let first = c.in_ok-write_durably.ensures in
    let one = clears_begin lawful c.requires first.any_moment first.carries first.content first.durable in
    let two = clears_write 0 first_cleared (omega arith) lawful (g.met.D.SectorDevice.lawful _) c.requires one c.write.ensures.crash
    c.write.ensures.carries c.write.ensures.time in
    let second = c.write-2.ensures in
    let three = clears_write 1 second_cleared (omega arith) lawful (g.met.D.SectorDevice.lawful _) c.requires two second.crash
    second.carries second.time in
    let sync = c.sync.ensures in
    let four = clears_still (g.met.D.SectorDevice.lawful _) three sync.untouched sync.carries sync.time in
    (four.slots sectors keeps).run.leaves

pub returns-in_err-sync-clause-touched : goal.returns-in_err-sync-clause-touched
returns-in_err-sync-clause-touched g c =
    let lawful = g.met.D.SectorDevice.lawful c.args.device.now in
    let first = c.in_ok-write_durably.ensures in
    let one = clears_begin lawful c.requires first.any_moment first.carries first.content first.durable in
    let two = clears_write 0 first_cleared (omega arith) lawful (g.met.D.SectorDevice.lawful _) c.requires one c.write.ensures.crash
    c.write.ensures.carries c.write.ensures.time in
    let second = c.write-2.ensures in
    let three = clears_write 1 second_cleared (omega arith) lawful (g.met.D.SectorDevice.lawful _) c.requires two second.crash
    second.carries second.time in
    let sync = c.sync.ensures in
    let four = clears_still (g.met.D.SectorDevice.lawful _) three sync.untouched sync.carries sync.time in
    four.touched

pub returns-clause-any_moment : goal.returns-clause-any_moment
returns-clause-any_moment g c sectors keeps =
    let lawful = g.met.D.SectorDevice.lawful c.args.device.now in
    let first = c.in_ok-write_durably.ensures in
    let one = clears_begin lawful c.requires first.any_moment first.carries first.content first.durable in
    let two = clears_write 0 first_cleared (omega arith) lawful (g.met.D.SectorDevice.lawful _) c.requires one c.write.ensures.crash
    c.write.ensures.carries c.write.ensures.time in
    let second = c.write-2.ensures in
    let three = clears_write 1 second_cleared (omega arith) lawful (g.met.D.SectorDevice.lawful _) c.requires two second.crash
    second.carries second.time in
    let sync = c.sync.ensures in
    let four = clears_still (g.met.D.SectorDevice.lawful _) three sync.untouched sync.carries sync.time in
    (four.slots sectors keeps).run.leaves

pub returns-clause-touched : goal.returns-clause-touched
returns-clause-touched g c =
    let lawful = g.met.D.SectorDevice.lawful c.args.device.now in
    let first = c.in_ok-write_durably.ensures in
    let one = clears_begin lawful c.requires first.any_moment first.carries first.content first.durable in
    let two = clears_write 0 first_cleared (omega arith) lawful (g.met.D.SectorDevice.lawful _) c.requires one c.write.ensures.crash
    c.write.ensures.carries c.write.ensures.time in
    let second = c.write-2.ensures in
    let three = clears_write 1 second_cleared (omega arith) lawful (g.met.D.SectorDevice.lawful _) c.requires two second.crash
    second.carries second.time in
    let sync = c.sync.ensures in
    let four = clears_still (g.met.D.SectorDevice.lawful _) three sync.untouched sync.carries sync.time in
    four.touched

pub returns-clause-clear : goal.returns-clause-clear
returns-clause-clear g c keeps =
    let synced = c.sync.ensures.carries.kept_before keeps in
    let second = c.write-2.ensures.carries.kept_before synced in
    let first = c.write.ensures.carries.kept_before second in
    (all_cleared _ _ _ _ (let size = (g.met.D.SectorDevice.lawful c.args.device.now).size in omega (arith, size, c.requires))
    (c.in_ok-write_durably.ensures.content first) (c.in_ok-write.ensures.written second)
    (c.sync.ensures.untouched.content ∙ c.in_ok-write-2.ensures.written synced)).0

pub returns-clause-others : goal.returns-clause-others
returns-clause-others g c keeps =
    let synced = c.sync.ensures.carries.kept_before keeps in
    let second = c.write-2.ensures.carries.kept_before synced in
    let first = c.write.ensures.carries.kept_before second in
    (all_cleared _ _ _ _ (let size = (g.met.D.SectorDevice.lawful c.args.device.now).size in omega (arith, size, c.requires))
    (c.in_ok-write_durably.ensures.content first) (c.in_ok-write.ensures.written second)
    (c.sync.ensures.untouched.content ∙ c.in_ok-write-2.ensures.written synced)).1
