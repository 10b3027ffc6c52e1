use Rattle.std.proofs.Common.{◌∙◌, ℕ, List, Ok, inl, inr, refl, subst}
use Rattle.std.proofs.lemmas.Result.{err_from_is_err_and}
use Rattle.lfs_model.specs.Call.{Create, Handle}
use Rattle.lfs_fs.specs.Seen.{seen}
use Rattle.lfs_fs.specs.declared.error.FsError.TheVariants as error
use Rattle.lfs_record.specs.Recording.{CallsWithRoom}
use Rattle.lfs_record.proofs.Turning.{turn_done, turn_many, turn_stops, turn_unclosed}
use Rattle.lfs_record.proofs.recorder.Recorder.start.Goals as goal

pub returns-then-self-ge-LAST : goal.returns-then-self-ge-LAST
returns-then-self-ge-LAST g c =
    turn_stops g.D.SectorDevice.state _ c.args.self.now c.args.day.now error.Worn (inl (refl, c.if-self-ge-LAST.true))

pub returns-in_default : goal.returns-in_default
returns-in_default g c = turn_stops g.D.SectorDevice.state _ c.args.self.now c.args.day.now error.NoMemory (inr refl)

pub returns-in_err-close_before : goal.returns-in_err-close_before
returns-in_err-close_before g c =
    let p = err_from_is_err_and c.from_residual-in_err-close_before.result c.from_residual-in_err-close_before.ensures.1 in rw (p.1, p.2)
    (turn_unclosed g.D.SectorDevice.state _ _ _ c.args.self.now c.args.day.now c.in_ok-handle.handle c.requires c.if-self-ge-LAST.false
    (subst (λ (p : List ℕ). CallsWithRoom g.D.SectorDevice.state (seen c.args.fs.now) (seen c.create.new.fs) c.args.self.now (Create p)
    Handle (Ok c.in_ok-handle.handle)) (c.as_slice.ensures.value ∙ c.in-Ok.ensures) c.in_ok-handle.ensures)
    c.in_err-close_before.field-0.0 c.in_err-close_before.ensures)

pub returns-in_err-keep_few : goal.returns-in_err-keep_few
returns-in_err-keep_few g c =
    let p = err_from_is_err_and c.from_residual-in_err-keep_few.result c.from_residual-in_err-keep_few.ensures.1 in rw (p.1, p.2)
    (turn_many g.D.SectorDevice.state _ _ _ c.args.self.now c.args.day.now c.in_ok-handle.handle c.requires c.if-self-ge-LAST.false
    (subst (λ (p : List ℕ). CallsWithRoom g.D.SectorDevice.state (seen c.args.fs.now) (seen c.create.new.fs) c.args.self.now (Create p)
    Handle (Ok c.in_ok-handle.handle)) (c.as_slice.ensures.value ∙ c.in-Ok.ensures) c.in_ok-handle.ensures)
    c.in_ok-close_before.field-0 c.in_ok-close_before.ensures _ c.in_err-keep_few.field-0.0 c.in_err-keep_few.ensures)

pub returns : goal.returns
returns g c =
    turn_done g.D.SectorDevice.state _ _ _ c.args.self.now c.args.day.now c.in_ok-handle.handle c.requires c.if-self-ge-LAST.false
    (subst (λ (p : List ℕ). CallsWithRoom g.D.SectorDevice.state (seen c.args.fs.now) (seen c.create.new.fs) c.args.self.now (Create p)
    Handle (Ok c.in_ok-handle.handle)) (c.as_slice.ensures.value ∙ c.in-Ok.ensures) c.in_ok-handle.ensures)
    c.in_ok-close_before.field-0 c.in_ok-close_before.ensures _ c.in_ok-keep_few.field-0 c.in_ok-keep_few.ensures
