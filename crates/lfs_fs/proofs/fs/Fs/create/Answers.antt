use Rattle.lfs_fs.proofs.Prelude.{false, refl, sym, ◌∙◌, ap, arith, nat_cmp, put, Create, Handle, Handles}
use Rattle.lfs_fs.proofs.Prelude.{least_handle, at_most, not_at_most, checks_new}
use Rattle.lfs_fs.proofs.calls.AnyDevice.{makes_behaves}
use Rattle.lfs_fs.proofs.paths.Steps.{create_refused}
use Rattle.lfs_fs.proofs.new_entries.Drafts.{entry_opens, entry_turned}
use Rattle.lfs_fs.proofs.new_entries.Ends.{bytes_of}
use Rattle.lfs_fs.proofs.new_entries.Outcomes.{entry_refused, number_refused, own_refused}
use Rattle.lfs_fs.proofs.new_entries.Rule.{unreached}
use Rattle.lfs_steps.proofs.new_entries.Steps.{create_call}
use Rattle.lfs_fs.proofs.Exits.{entry_fits, returned}
use Rattle.std.proofs.Common.{nat_le}
use Rattle.lfs_fs.proofs.Prelude.{ℕ, ◌≡◌, ◌<◌}
use Rattle.lfs_fs.proofs.fs.Fs.create.Goals as goal

-- a handle is free
free_handle : {now table : Handles} {handle : ℕ} → least_handle table ≡ handle → handle < 64 → now ≡ table
    → nat_le 64 (least_handle now) ≡ false
free_handle first within same = let is = ap least_handle same ∙ first in not_at_most 64 _ (omega (arith, is, within))

-- the path is refused, or has no piece
pub returns-in_err-directory : goal.returns-in_err-directory
returns-in_err-directory g c =
    rw (returned c.from_residual.ensures)
    (unreached g.met.D.SectorDevice.lawful _ _ _ _ refl refl refl (λ k m0 m s keeps is. create_refused _ s) false
    (λ s d walk. checks_new (create_call _ _ _ d (bytes_of c.args.path.now c.type_inv.path)) s refl walk)
    _ c.in_err-directory.ensures.refused)

pub returns-in_err-holder : goal.returns-in_err-holder
returns-in_err-holder g c =
    let begins = c.in_ok-directory.ensures.begun in
    rw (returned c.from_residual-in_err-holder.ensures)
    (entry_refused g.met.D.SectorDevice.lawful begins (create_call _ _ _ _ begins.reached.bytes) _ _
    c.in_err-holder.ensures)

-- no handle is free
pub returns-in_default : goal.returns-in_default
returns-in_default g c =
    let begins = c.in_ok-directory.ensures.begun in
    own_refused g.met.D.SectorDevice.lawful begins (create_call _ _ _ _ begins.reached.bytes) _ _
    c.in_ok-holder.ensures tt
    (λ s handles are. at_most 64 _ (rw handles c.in_default.ensures.full))

-- no number is free
pub returns-in_default-least_free : goal.returns-in_default-least_free
returns-in_default-least_free g c =
    let begins = c.in_ok-directory.ensures.begun in
    number_refused g.met.D.SectorDevice.lawful begins (create_call _ _ _ _ begins.reached.bytes) _ _
    c.in_ok-holder.ensures
    (λ s handles are. free_handle c.in-Some.ensures.first c.in-Some.ensures.within handles) c.in_default-least_free.ensures.none

pub finish-requires-clause-room : goal.finish-requires-clause-room
finish-requires-clause-room g c =
    let draft = c.draft_entry-drafted.ensures in
    entry_fits g.met.D.SectorDevice.lawful c.in_ok-directory.ensures.begun c.in_ok-holder.ensures.only
    draft.only 4 4 (omega arith) draft.small

pub returns-in_err-finish : goal.returns-in_err-finish
returns-in_err-finish g c =
    let begins = c.in_ok-directory.ensures.begun in
    let draft = c.draft_entry-drafted.ensures in
    rw (returned c.from_residual-in_err-finish.ensures)
    (entry_turned _ g.met.D.SectorDevice.lawful begins (create_call _ _ _ _ begins.reached.bytes) _ _
    c.in_ok-holder.ensures (λ on. cc)
    _ c.in-Some-least_free.ensures.some (λ s handles are. free_handle c.in-Some.ensures.first c.in-Some.ensures.within handles)
    _ draft.only.redrafts (omega arith) c.finish.new.self c.in_err-finish.ensures.rest _ draft _ c.in_err-finish.ensures.ends)

pub returns : goal.returns
returns g c =
    let begins = c.in_ok-directory.ensures.begun in
    let draft = c.draft_entry-drafted.ensures in
    let first = c.in-Some.ensures.first in
    let rest = c.in_ok-finish.ensures.rest in
    entry_opens _ g.met.D.SectorDevice.lawful begins (create_call _ _ _ _ begins.reached.bytes) _ _
    c.in_ok-holder.ensures (λ on. cc)
    _ c.in-Some-least_free.ensures.some (λ s handles are. free_handle first c.in-Some.ensures.within handles)
    _ draft.only.redrafts (omega arith) c.finish.new.self rest refl c.open.new.self
    (λ s handles are least.
    let is = ap least_handle handles ∙ first in
    (ap Handle is, (λ i. put nat_cmp (is i) (least i) ((handles ∙ sym rest) i)) ∙ sym c.open.ensures))
    (makes_behaves g.D.SectorDevice.state (Create c.args.path.now) (Handle c.in-Some.handle) refl refl refl)
    _ draft tt c.in_ok-finish.ensures.ends
