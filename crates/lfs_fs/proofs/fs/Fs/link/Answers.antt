use Rattle.lfs_fs.proofs.Prelude.{refl, arith}
use Rattle.lfs_fs.proofs.link.Drafts.{link_ends}
use Rattle.lfs_fs.proofs.link.Outcomes.{many_refused, may_link, name_refused, names_object, second_begins, second_lacks}
use Rattle.lfs_steps.proofs.link.Steps.{link_call, link_refused}
use Rattle.lfs_fs.proofs.new_entries.Ends.{bytes_of}
use Rattle.lfs_fs.proofs.new_entries.Rule.{read}
use Rattle.lfs_fs.proofs.old_entries.Rule.{entry_refused, no_piece_perm}
use Rattle.lfs_fs.proofs.paths.Places.{nowhere_serves}
use Rattle.lfs_fs.proofs.Exits.{asked_fails, entry_fits, returned}
use Rattle.lfs_entries.specs.Telling.{AsksOnly}
use Rattle.lfs_fs.specs.Naming.{BeginsAt, FindsPlace}
use Rattle.lfs_fs.proofs.calls.Files.{with_store}
use Rattle.lfs_fs.proofs.Prelude.{AreBytes, DeviceState, EntryFault, Fs, IsLawful, Last, List, OnlyReads, Result, Some, Store, files_of, ℕ}
use Rattle.lfs_fs.proofs.fs.Fs.link.Goals as goal

-- the second path is walked to its last piece, after the first named an entry
second_place : {D : Type 0} {state : D → DeviceState} (lawful : (d : D) → IsLawful (state d)) {old f next : Fs D} {a b : List ℕ} {da db : ℕ}
    {la lb : Last} → BeginsAt state old f a da la → {store : Store D} {X : Type 0} {entry : Result X EntryFault}
    → AsksOnly (files_of state f.store) (files_of state store) entry → OnlyReads state (with_store f store) next → AreBytes b
    → FindsPlace state (with_store f store) next b db (Some lb) → BeginsAt state old next b db lb
second_place {state = state} lawful {old} begins {store} asked reads bytes found =
    second_begins lawful old (read state lawful begins store asked.reads) reads _ bytes found

-- the first path is refused, or has no piece
pub returns-in_err-directory : goal.returns-in_err-directory
returns-in_err-directory g c =
    rw (returned c.from_residual.ensures)
    (nowhere_serves g.met.D.SectorDevice.lawful _ _ _ _ refl refl refl
    (λ k m0 m s keeps is. link_refused _ s _ _ is.log.sound.named) _ _ c.in_err-directory.ensures.refused
    (λ d. no_piece_perm g.met.D.SectorDevice.lawful (link_call _ _ _ d) refl))

pub returns-in_err-entry : goal.returns-in_err-entry
returns-in_err-entry g c =
    let begun = c.in_ok-directory.ensures.begun in
    let why = c.in_err-entry.ensures in
    rw (returned c.from_residual-in_err-entry.ensures)
    (asked_fails (entry_refused g.met.D.SectorDevice.lawful (link_call _ _ _ _) refl begun.reached begun.ready _
    why.only.reads)
    why.only why.refused)

-- the second path is refused, or has no piece
pub returns-in_err-parent : goal.returns-in_err-parent
returns-in_err-parent g c =
    let begins = c.in_ok-directory.ensures.begun in
    let entry = c.in_ok-entry.ensures in
    rw (returned c.from_residual-in_err-parent.ensures)
    (second_lacks g.met.D.SectorDevice.lawful c.args.self.now
    (read _ g.met.D.SectorDevice.lawful begins _ entry.only.reads)
    c.in_err-parent.ensures.reads _ (bytes_of c.args.to.now c.type_inv.to) _ _ _ _
    (names_object g.met.D.SectorDevice.lawful begins _ entry.only.reads entry.has) _ c.in_err-parent.ensures.refused)

pub returns-in_err-holder : goal.returns-in_err-holder
returns-in_err-holder g c =
    let begins = c.in_ok-directory.ensures.begun in
    let entry = c.in_ok-entry.ensures in
    let found = c.in_ok-parent.ensures in
    let bytes = bytes_of c.args.to.now c.type_inv.to in
    let second = second_place g.met.D.SectorDevice.lawful begins entry.only found.reads bytes found.found in
    rw (returned c.from_residual-in_err-holder.ensures)
    (name_refused _ g.met.D.SectorDevice.lawful found.reads second begins.reached.bytes _ _ _
    (names_object g.met.D.SectorDevice.lawful begins _ entry.only.reads entry.has) _ _ c.in_err-holder.ensures)

-- the object has all the links that it may have
pub returns-then-object-ge-MOST_LINKS : goal.returns-then-object-ge-MOST_LINKS
returns-then-object-ge-MOST_LINKS g c =
    let begins = c.in_ok-directory.ensures.begun in
    let entry = c.in_ok-entry.ensures in
    let found = c.in_ok-parent.ensures in
    let bytes = bytes_of c.args.to.now c.type_inv.to in
    let second = second_place g.met.D.SectorDevice.lawful begins entry.only found.reads bytes found.found in
    many_refused _ g.met.D.SectorDevice.lawful found.reads second begins.reached.bytes _ _ _
    (names_object g.met.D.SectorDevice.lawful begins _ entry.only.reads entry.has) _ _ c.in_ok-holder.ensures
    c.if-object-ge-MOST_LINKS.true

pub finish-requires-clause-room : goal.finish-requires-clause-room
finish-requires-clause-room g c =
    let begins = c.in_ok-directory.ensures.begun in
    let entry = c.in_ok-entry.ensures in
    let found = c.in_ok-parent.ensures in
    let bytes = bytes_of c.args.to.now c.type_inv.to in
    let second = second_place g.met.D.SectorDevice.lawful begins entry.only found.reads bytes found.found in
    let draft = c.draft_name-drafted.ensures in
    entry_fits g.met.D.SectorDevice.lawful second c.in_ok-holder.ensures.only draft.only 2 2 (omega arith) draft.small

pub returns : goal.returns
returns g c =
    let begins = c.in_ok-directory.ensures.begun in
    let entry = c.in_ok-entry.ensures in
    let found = c.in_ok-parent.ensures in
    let bytes = bytes_of c.args.to.now c.type_inv.to in
    let second = second_place g.met.D.SectorDevice.lawful begins entry.only found.reads bytes found.found in
    let rule = c.in_ok-holder.ensures in
    let draft = c.draft_name-drafted.ensures in
    link_ends _ g.met.D.SectorDevice.lawful _ _
    (read _ g.met.D.SectorDevice.lawful second _ rule.only.reads)
    _ draft.only.redrafts _ _ _ _ _ _ _ _
    (may_link _ g.met.D.SectorDevice.lawful found.reads second begins.reached.bytes _ _ _
    (names_object g.met.D.SectorDevice.lawful begins _ entry.only.reads entry.has) _ _ rule
    c.if-object-ge-MOST_LINKS.false
    _ draft.only.redrafts)
    c.finish.new.self c.finish.ensures.rest _ draft _ c.finish.ensures.ends
