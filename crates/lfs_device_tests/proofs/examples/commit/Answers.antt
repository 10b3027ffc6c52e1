use Rattle.std.proofs.Common.{rules}
use Rattle.lfs_model.proofs.UnitWrites.{crash_of_sectors}
use Rattle.lfs_device_tests.proofs.examples.commit.Goals as goal

pub returns-in_err-write-clause-any_moment : goal.returns-in_err-write-clause-any_moment
returns-in_err-write-clause-any_moment g c =
    let old = g.D.SectorDevice.state c.sync.new.self in
    let new = g.D.SectorDevice.state c.write.new.self in
    let crash = crash_of_sectors old new _ _ (g.met.D.SectorUnits.units c.sync.new.self) c.write.ensures.crash in
    search rules

pub returns-clause-any_moment : goal.returns-clause-any_moment
returns-clause-any_moment g c =
    let old = g.D.SectorDevice.state c.sync.new.self in
    let new = g.D.SectorDevice.state c.write.new.self in
    let crash = crash_of_sectors old new _ _ (g.met.D.SectorUnits.units c.sync.new.self) c.write.ensures.crash in
    search rules
