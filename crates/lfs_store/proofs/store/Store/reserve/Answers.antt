use Rattle.std.proofs.Common.{rules, ◌≡◌}
use Rattle.lfs_store.proofs.Befores.{reserves_found, told_once, told_room}
use Rattle.lfs_store.proofs.Endings.{exit_is}
use Rattle.lfs_store.proofs.store.Store.reserve.Goals as goal

pub returns-in_err-clean_before_change-clause-makes : goal.returns-in_err-clean_before_change-clause-makes
returns-in_err-clean_before_change-clause-makes g c =
    rw (exit_is c.from_residual.ensures) c.in_err-clean_before_change.ensures.makes

pub returns-clause-makes : goal.returns-clause-makes
returns-clause-makes g c =
    reserves_found (g.met.D.SectorDevice.lawful _) c.requires c.in_ok-clean_before_change.ensures.makes
    c.in_ok-clean_before_change.ensures.ready c.prepare.ensures.makes c.prepare.ensures.still

pub returns-clause-told : goal.returns-clause-told
returns-clause-told g c =
    told_room g.D.SectorDevice.state c.prepare.new.self.log c.in_ok-clean_before_change.ensures.ready
    (λ all clean. (c.prepare.ensures.still all clean).1) c.in_ok-clean_before_change.ensures.room
    c.prepare.ensures.told c.prepare.ensures.passes

pub returns-clause-one_pass : goal.returns-clause-one_pass
returns-clause-one_pass g c =
    told_once g.D.SectorDevice.state c.prepare.new.self.log c.in_ok-clean_before_change.ensures.ready
    (λ all clean. (c.prepare.ensures.still all clean).1) c.in_ok-clean_before_change.ensures.told
    c.prepare.ensures.one_commit
