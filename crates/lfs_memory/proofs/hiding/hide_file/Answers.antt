use Rattle.std.proofs.Common.{rules, sym, ◌∙◌}
use Rattle.lfs_memory.proofs.Lifted.{prepares_and_looks, prepares_excused}
use Rattle.lfs_memory.proofs.Unlinked.{blocks_covered, file_hidden, link_excused, absent_excused}
use Rattle.lfs_memory.proofs.hiding.hide_file.Goals as goal

pub returns-in-Ok-false-clause-failed : goal.returns-in-Ok-false-clause-failed
returns-in-Ok-false-clause-failed g c _ =
    absent_excused (g.D.SectorDevice.state c.args.device.now) (g.D.SectorDevice.state c.lift_inode.new.device) c.args.memory.now
    c.args.number (c.in-Ok-false.ensures.absent (search rules))

pub returns-in-Err-clause-failed : goal.returns-in-Err-clause-failed
returns-in-Err-clause-failed g c is =
    link_excused (g.D.SectorDevice.state c.args.device.now) (g.D.SectorDevice.state c.lift_inode.new.device) c.args.memory.now c.args.number
    (c.in-Err.ensures.ends.failed (search rules))

pub returns-in-Err-count_file-clause-prepares : goal.returns-in-Err-count_file-clause-prepares
returns-in-Err-count_file-clause-prepares g c =
    prepares_and_looks (g.met.D.SectorDevice.lawful _) c.in-Ok-true.ensures.prepares c.count_file.ensures.looks.looks

pub returns-in-Err-count_file-clause-failed : goal.returns-in-Err-count_file-clause-failed
returns-in-Err-count_file-clause-failed g c _ =
    link_excused (g.D.SectorDevice.state c.args.device.now) (g.D.SectorDevice.state c.count_file.new.device) c.args.memory.now c.args.number
    (prepares_excused c.in-Ok-true.ensures.prepares c.count_file.ensures.looks.looks c.in-Err-count_file.ensures.looks.failed)

pub returns-then-not-are_covered-clause-prepares : goal.returns-then-not-are_covered-clause-prepares
returns-then-not-are_covered-clause-prepares g c =
    prepares_and_looks (g.met.D.SectorDevice.lawful _) c.in-Ok-true.ensures.prepares c.count_file.ensures.looks.looks

pub returns-then-not-are_covered-clause-failed : goal.returns-then-not-are_covered-clause-failed
returns-then-not-are_covered-clause-failed g c _ =
    link_excused (g.D.SectorDevice.state c.args.device.now) (g.D.SectorDevice.state c.count_file.new.device) c.args.memory.now c.args.number
    (blocks_covered c.args.number c.count_file.new.counts (g.met.D.SectorDevice.lawful c.args.device.now) c.in-Ok-true.ensures.prepares
    c.count_file.ensures.looks.looks c.requires.number.few (sym c.is_hidden.ensures ∙ c.if-is_hidden.false) c.in-Ok.ensures.counted
    (c.if-not-are_covered.ensures.no (search rules)))

pub returns-clause-hides : goal.returns-clause-hides
returns-clause-hides g c =
    file_hidden _ _ (g.met.D.SectorDevice.lawful _) c.in-Ok-true.ensures.prepares
    c.count_file.ensures.looks.looks c.requires.number.few (sym c.is_hidden.ensures ∙ c.if-is_hidden.false) c.in-Ok.ensures.counted
    c.drop_links.ensures
