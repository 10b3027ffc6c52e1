use Rattle.lfs_fs.proofs.Prelude.{true, refl, ap, ◌∙◌, arith, at_most, not_at_most}
use Rattle.lfs_fs.proofs.Prelude.{checks_new}
use Rattle.lfs_model.specs.Tree.{new_form}
use Rattle.lfs_fs.proofs.paths.Steps.{mkdir_refused}
use Rattle.lfs_fs.proofs.new_entries.Drafts.{entry_ends}
use Rattle.lfs_fs.proofs.new_entries.Ends.{bytes_of}
use Rattle.lfs_fs.proofs.new_entries.Outcomes.{entry_refused, number_refused, own_refused}
use Rattle.lfs_fs.proofs.new_entries.Rule.{read, unreached}
use Rattle.lfs_steps.proofs.new_entries.Steps.{mkdir_call}
use Rattle.lfs_fs.proofs.Exits.{entry_fits, returned}
use Rattle.lfs_fs.proofs.fs.Fs.mkdir.Goals as goal

-- the path is refused, or has no piece
pub returns-in_err-directory : goal.returns-in_err-directory
returns-in_err-directory g c =
    rw (returned c.from_residual.ensures)
    (unreached g.met.D.SectorDevice.lawful _ _ _ _ refl refl refl (λ k m0 m s keeps is. mkdir_refused _ s) true
    (λ s d walk. checks_new (mkdir_call _ _ _ d (bytes_of c.args.path.now c.type_inv.path) _ refl) s refl walk)
    _ c.in_err-directory.ensures.refused)

pub returns-in_err-holder : goal.returns-in_err-holder
returns-in_err-holder g c =
    let begins = c.in_ok-directory.ensures.begun in
    rw (returned c.from_residual-in_err-holder.ensures)
    (entry_refused g.met.D.SectorDevice.lawful begins (mkdir_call _ _ _ _ begins.reached.bytes _ refl) _ _
    c.in_err-holder.ensures)

-- the directory has all the links that it may have
pub returns-then-holder-ge-MOST_LINKS : goal.returns-then-holder-ge-MOST_LINKS
returns-then-holder-ge-MOST_LINKS g c =
    let begins = c.in_ok-directory.ensures.begun in
    let many = c.if-holder-ge-MOST_LINKS.true in
    own_refused g.met.D.SectorDevice.lawful begins (mkdir_call _ _ _ _ begins.reached.bytes _ refl) _ _
    c.in_ok-holder.ensures tt
    (λ s handles are. at_most 1000 _ (omega (arith, many, are)))

-- no number is free
pub returns-in_default : goal.returns-in_default
returns-in_default g c =
    let begins = c.in_ok-directory.ensures.begun in
    let few = c.if-holder-ge-MOST_LINKS.false in
    number_refused g.met.D.SectorDevice.lawful begins (mkdir_call _ _ _ _ begins.reached.bytes _ refl) _ _
    c.in_ok-holder.ensures
    (λ s handles are. not_at_most 1000 _ (omega (arith, few, are))) c.in_default.ensures.none

pub finish-requires-clause-room : goal.finish-requires-clause-room
finish-requires-clause-room g c =
    let draft = c.draft_entry-drafted.ensures in
    entry_fits g.met.D.SectorDevice.lawful c.in_ok-directory.ensures.begun c.in_ok-holder.ensures.only
    draft.only 4 4 (omega arith) draft.small

pub returns : goal.returns
returns g c =
    let begins = c.in_ok-directory.ensures.begun in
    let rule = c.in_ok-holder.ensures in
    let draft = c.draft_entry-drafted.ensures in
    let form = c.new_form.ensures
    ∙ ap new_form (read g.D.SectorDevice.state g.met.D.SectorDevice.lawful begins _
    rule.only.reads).still.reads.version in
    let few = c.if-holder-ge-MOST_LINKS.false in
    entry_ends _ g.met.D.SectorDevice.lawful begins (mkdir_call _ _ _ _ begins.reached.bytes _ form) _ _ rule
    (λ on. few)
    c.in-Some.number.value c.in-Some.ensures.some (λ s handles are. not_at_most 1000 _ (omega (arith, few, are)))
    _ draft.only.redrafts (omega arith) c.finish.new.self
    c.finish.ensures.rest (λ s handles are. (refl, refl)) _ draft _ c.finish.ensures.ends
