use Rattle.lfs_fs.proofs.Prelude.{rules, ◌≡◌, ◌≢◌, sym, ◌∙◌}
use Rattle.lfs_fs.proofs.read.Ends.{begun_serves}
use Rattle.lfs_fs.proofs.widen.Upgrades.{upgrade_ends, upgrade_nothing}
use Rattle.lfs_fs.proofs.Exits.{returned, unbegun}
use Rattle.lfs_fs.proofs.fs.Fs.upgrade.Goals as goal

pub returns-in_err-begin : goal.returns-in_err-begin
returns-in_err-begin g c =
    rw (returned c.from_residual.ensures) (unbegun g.met.D.SectorDevice.lawful c.in_err-begin.ensures)

pub returns-then-version-ne1 : goal.returns-then-version-ne1
returns-then-version-ne1 g c =
    let begun = c.in_ok-begin.ensures.done in
    let later : c.version.result ≢ 1 = search rules in
    begun_serves g.D.SectorDevice.state begun
    (upgrade_nothing g.met.D.SectorDevice.lawful begun
    (λ one. later (c.version.ensures.value ∙ one))
    c.check_worn.result c.check_worn.ensures.young c.check_worn.ensures.old c.check_worn.ensures.fault)

pub returns : goal.returns
returns g c =
    let begun = c.in_ok-begin.ensures.done in
    let first : c.version.result ≡ 1 = search rules in
    begun_serves g.D.SectorDevice.state begun
    (upgrade_ends g.met.D.SectorDevice.lawful begun c.upgrade.new.self
    c.upgrade.ensures.keeps.log c.upgrade.ensures.keeps.drafted
    c.upgrade.ensures.done c.upgrade.ensures.counted (sym c.version.ensures.value ∙ first)
    c.accept.new.self c.accept.ensures.rest c.accept.result c.accept.ensures.done
    c.accept.ensures.refused)
