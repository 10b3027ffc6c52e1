use Rattle.std.proofs.Common.{rules, ◌≡◌, true, false, Err}
use Rattle.lfs_cleaner.specs.log.memory.files.declared.fault.LogFault.TheVariants.{Device}
use Rattle.lfs_store.proofs.Acceptings.{asks_much, where_err}
use Rattle.lfs_store.proofs.Endings.{accepted_halted, accepted_refused, accepted_staged, accepted_unready}
use Rattle.lfs_store.proofs.store.Store.stage.Goals as goal

pub returns-then-is_halted-clause-accepts : goal.returns-then-is_halted-clause-accepts
returns-then-is_halted-clause-accepts g c =
    accepted_halted (cc)

pub returns-in-Err-clause-accepts : goal.returns-in-Err-clause-accepts
returns-in-Err-clause-accepts g c =
    accepted_unready (cc) c.reserve.ensures.quiet c.reserve.ensures.told c.reserve.ensures.one_pass c.reserve.ensures.one_commit
    c.in-Err.ensures.makes c.in-Err.ensures.lacks

pub returns-in-Ok-staged-clause-accepts : goal.returns-in-Ok-staged-clause-accepts
returns-in-Ok-staged-clause-accepts g c =
    accepted_staged (cc) c.reserve.ensures.quiet c.reserve.ensures.told c.reserve.ensures.one_pass c.reserve.ensures.one_commit
    (g.met.D.SectorDevice.lawful _) c.in-Ok.ensures.makes c.in-Ok.ensures.enough c.in-Ok-staged.ensures.done c.in-Ok-staged.ensures.counted

pub returns-in-Err-Full-clause-accepts : goal.returns-in-Err-Full-clause-accepts
returns-in-Err-Full-clause-accepts g c =
    accepted_refused (cc) c.reserve.ensures.quiet c.reserve.ensures.told c.reserve.ensures.one_pass c.reserve.ensures.one_commit
    (g.met.D.SectorDevice.lawful _) c.in-Ok.ensures.makes c.in-Ok.ensures.enough
    (where_err _ _ c.in-Err-Full.is c.stage-staged.ensures.refused) (where_err _ _ c.in-Err-Full.is c.stage-staged.ensures.kept)
    (λ e. absurd (cc)) (λ e. absurd (cc))
    (λ e rest. asks_much c.reserve.new.self.draft
    c.in-Ok.ensures.makes.done rest c.in-Ok.ensures.room (c.stage-staged.ensures.full (search rules)))
    (λ e. absurd (cc))

pub returns-in-Err-Device-clause-accepts : goal.returns-in-Err-Device-clause-accepts
returns-in-Err-Device-clause-accepts g c =
    let device : c.stage-staged.result ≡ Err Device = search rules in
    accepted_refused (cc) c.reserve.ensures.quiet c.reserve.ensures.told c.reserve.ensures.one_pass c.reserve.ensures.one_commit
    (g.met.D.SectorDevice.lawful _) c.in-Ok.ensures.makes c.in-Ok.ensures.enough (where_err _ _ device c.stage-staged.ensures.refused)
    (where_err _ _ device c.stage-staged.ensures.kept)
    (λ e. absurd (cc)) (λ e. absurd (cc)) (λ e. absurd (cc))
    (λ e. c.stage-staged.ensures.failed device)

pub returns-in-Err-Halted-clause-accepts : goal.returns-in-Err-Halted-clause-accepts
returns-in-Err-Halted-clause-accepts g c =
    let running : c.reserve.new.self.log.halted ≡ false = c.in-Ok.ensures.makes.done.keeps.running in
    let halted : c.reserve.new.self.log.halted ≡ true = (c.stage-staged.ensures.halted (search rules)).1 in
    absurd (cc)
