use Rattle.lfs_fs.proofs.Prelude.{rules, ◌≡◌, ◌≢◌, refl, sym, ◌∙◌}
use Rattle.lfs_fs.proofs.widen.Ends.{narrow_reached, no_directory, old_volume, wide_already}
use Rattle.lfs_fs.proofs.Exits.{header_fails, header_read, returned}
use Rattle.lfs_fs.proofs.fs.Fs.widen_at.Goals as goal

pub returns-in_err-header : goal.returns-in_err-header
returns-in_err-header g c v path reached =
    rw (returned c.from_residual.ensures)
    (header_fails g.met.D.SectorDevice.lawful reached refl c.in_err-header.ensures)

pub returns-then-not-is_directory : goal.returns-then-not-is_directory
returns-then-not-is_directory g c v path reached =
    no_directory g.met.D.SectorDevice.lawful
    (header_read g.met.D.SectorDevice.lawful reached c.in_ok-header.ensures)
    (c.if-not-is_directory.ensures.no (search rules))

pub returns-then-version-eq1 : goal.returns-then-version-eq1
returns-then-version-eq1 g c v path reached =
    let there = header_read g.met.D.SectorDevice.lawful reached c.in_ok-header.ensures in
    let one : c.version.result ≡ 1 = search rules in
    old_volume g.met.D.SectorDevice.lawful there (c.if-not-is_directory.ensures.yes (search rules))
    (sym there.begun.still.reads.version ∙ sym c.version.ensures.value ∙ one)

pub returns-then-header-ne-FIRST_FORM : goal.returns-then-header-ne-FIRST_FORM
returns-then-header-ne-FIRST_FORM g c v path reached =
    let there = header_read g.met.D.SectorDevice.lawful reached c.in_ok-header.ensures in
    let other : c.version.result ≢ 1 = search rules in
    let wide : c.in_ok-header.header.form ≢ 0 = search rules in
    wide_already g.met.D.SectorDevice.lawful there (c.if-not-is_directory.ensures.yes (search rules))
    (λ e. other (c.version.ensures.value ∙ there.begun.still.reads.version ∙ e)) wide
    _ c.check_worn.ensures.young c.check_worn.ensures.old c.check_worn.ensures.fault

pub returns : goal.returns
returns g c v path reached =
    let there = header_read g.met.D.SectorDevice.lawful reached c.in_ok-header.ensures in
    let other : c.version.result ≢ 1 = search rules in
    let narrow : c.in_ok-header.header.form ≡ 0 = search rules in
    c.widen_directory.ensures v path (narrow_reached g.met.D.SectorDevice.lawful there
    (c.if-not-is_directory.ensures.yes (search rules))
    (λ e. other (c.version.ensures.value ∙ there.begun.still.reads.version ∙ e)) narrow)
