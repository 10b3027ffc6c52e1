use Rattle.lfs_fs.proofs.Prelude.{false, refl, arith}
use Rattle.lfs_fs.proofs.Prelude.{checks_new}
use Rattle.lfs_fs.proofs.new_entries.Drafts.{entry_ends}
use Rattle.lfs_fs.proofs.new_entries.Ends.{bytes_of, text_ends}
use Rattle.lfs_fs.proofs.new_entries.Outcomes.{entry_refused, number_refused}
use Rattle.lfs_fs.proofs.new_entries.Rule.{unreached}
use Rattle.lfs_steps.proofs.new_entries.Steps.{symlink_call}
use Rattle.lfs_fs.proofs.paths.Steps.{symlink_refused}
use Rattle.lfs_fs.proofs.paths.Places.{place_begins, place_lacks}
use Rattle.lfs_fs.proofs.read.Ends.{begun_serves}
use Rattle.lfs_fs.proofs.Exits.{entry_fits, returned, unbegun}
use Rattle.lfs_fs.proofs.fs.Fs.symlink.Goals as goal

pub returns-in_err-begin : goal.returns-in_err-begin
returns-in_err-begin g c =
    rw (returned c.from_residual.ensures) (unbegun g.met.D.SectorDevice.lawful c.in_err-begin.ensures)

-- the text is refused
pub returns-in_err-check_link_text : goal.returns-in_err-check_link_text
returns-in_err-check_link_text g c =
    rw (returned c.from_residual-in_err-check_link_text.ensures)
    (begun_serves g.D.SectorDevice.state c.in_ok-begin.ensures.done
    (text_ends g.met.D.SectorDevice.lawful c.in_ok-begin.ensures.done c.args.text.now c.args.path.now
    c.in_err-check_link_text.ensures.refused))

-- the path is refused, or has no piece
pub returns-in_err-directory : goal.returns-in_err-directory
returns-in_err-directory g c =
    let good = c.in_ok-check_link_text.ensures.good in
    let bytes = bytes_of c.args.path.now c.type_inv.path in
    rw (returned c.from_residual-in_err-directory.ensures)
    (unreached g.met.D.SectorDevice.lawful _ _ _ _ refl refl refl (λ k m0 m s keeps is r. symlink_refused _ s r good)
    false
    (λ s d walk. checks_new (symlink_call _ _ _ d bytes c.args.text.now (bytes_of c.args.text.now c.type_inv.text) good) s refl walk)
    _ (place_lacks g.met.D.SectorDevice.lawful _ _ _ c.in_ok-begin.ensures.done c.in_err-directory.ensures.reads bytes
    _ _
    c.in_err-directory.ensures.refused))

pub returns-in_err-holder : goal.returns-in_err-holder
returns-in_err-holder g c =
    let found = c.in_ok-directory.ensures in
    let begins = place_begins g.met.D.SectorDevice.lawful c.in_ok-begin.ensures.done found.reads
    (bytes_of c.args.path.now c.type_inv.path)
    found.found in
    rw (returned c.from_residual-in_err-holder.ensures)
    (entry_refused g.met.D.SectorDevice.lawful begins (symlink_call _ _ _ _ begins.reached.bytes c.args.text.now
    (bytes_of c.args.text.now c.type_inv.text) c.in_ok-check_link_text.ensures.good)
    _ _ c.in_err-holder.ensures)

-- no number is free
pub returns-in_default : goal.returns-in_default
returns-in_default g c =
    let found = c.in_ok-directory.ensures in
    let begins = place_begins g.met.D.SectorDevice.lawful c.in_ok-begin.ensures.done found.reads
    (bytes_of c.args.path.now c.type_inv.path)
    found.found in
    number_refused g.met.D.SectorDevice.lawful begins (symlink_call _ _ _ _ begins.reached.bytes c.args.text.now
    (bytes_of c.args.text.now c.type_inv.text) c.in_ok-check_link_text.ensures.good)
    _ _ c.in_ok-holder.ensures (λ s handles are. refl) c.in_default.ensures.none

pub finish-requires-clause-room : goal.finish-requires-clause-room
finish-requires-clause-room g c =
    let found = c.in_ok-directory.ensures in
    let begins = place_begins g.met.D.SectorDevice.lawful c.in_ok-begin.ensures.done found.reads
    (bytes_of c.args.path.now c.type_inv.path)
    found.found in
    let draft = c.draft_entry-drafted.ensures in
    entry_fits g.met.D.SectorDevice.lawful begins c.in_ok-holder.ensures.only draft.only 4 4 (omega arith) draft.small

pub returns : goal.returns
returns g c =
    let found = c.in_ok-directory.ensures in
    let begins = place_begins g.met.D.SectorDevice.lawful c.in_ok-begin.ensures.done found.reads
    (bytes_of c.args.path.now c.type_inv.path)
    found.found in
    let draft = c.draft_entry-drafted.ensures in
    entry_ends _ g.met.D.SectorDevice.lawful begins (symlink_call _ _ _ _ begins.reached.bytes c.args.text.now
    (bytes_of c.args.text.now c.type_inv.text) c.in_ok-check_link_text.ensures.good)
    _ _ c.in_ok-holder.ensures (λ on. absurd (cc)) c.in-Some.number.value c.in-Some.ensures.some (λ s handles are. refl)
    _ draft.only.redrafts (omega arith) c.finish.new.self
    c.finish.ensures.rest (λ s handles are. (refl, refl)) _ draft _ c.finish.ensures.ends
