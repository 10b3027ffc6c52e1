use Rattle.std.proofs.Common.{◌≡◌, ◌∙◌, ℕ, ◌+◌, ap, arith, length, sym}
use Rattle.std.proofs.lemmas.Result.{err_from_is_err_and}
use Rattle.lfs_model.specs.Call.{Count}
use Rattle.lfs_record.specs.Moves.{goes_to}
use Rattle.lfs_record.specs.Recording.{writing}
use Rattle.lfs_record.proofs.Turning.{line_unwritten, line_written, no_day, no_line}
use Rattle.lfs_record.proofs.recorder.Recorder.line.Goals as goal

pub returns-then-not-is_day : goal.returns-then-not-is_day
returns-then-not-is_day g c =
    no_day g.D.SectorDevice.state _ c.args.self.now c.args.day.now c.args.line.now (sym c.is_day.ensures ∙ c.if-not-is_day.true)

pub returns-in_err-text : goal.returns-in_err-text
returns-in_err-text g c =
    let p = err_from_is_err_and c.from_residual.result c.from_residual.ensures.1 in rw (p.1, p.2)
    (no_line g.D.SectorDevice.state _ c.args.self.now c.args.day.now c.args.line.now c.in_err-text.field-0.0 c.in_err-text.ensures.cause)

pub returns-in_err-write : goal.returns-in_err-write
returns-in_err-write g c =
    let p = err_from_is_err_and c.from_residual-in_err-write.result c.from_residual-in_err-write.ensures.1 in rw (p.1, p.2)
    (line_unwritten g.D.SectorDevice.state _ _ _ c.args.self.now c.turn.new.self c.args.day.now c.args.line.now c.in_ok-present.present
    c.in_ok-present.ensures (writing c.in_ok-present.present c.as_slice.result.now) Count c.in_err-write.field-0.0 c.in_err-write.ensures)

pub returns : goal.returns
returns g c =
    let p = c.in_ok-present.present in
    let text = c.in_ok-text.text in
    let whole = text.ok.0 in
    let told = c.len.ensures in
    let long : c.len.result ≡ length text.items = omega (arith, told, whole) in
    line_written g.D.SectorDevice.state _ _ _ c.args.self.now c.turn.new.self c.args.day.now c.args.line.now p c.in_ok-present.ensures tt
    c.as_slice.result.now c.in_ok-write.field-0 _ c.in_ok-text.ensures.line (c.as_slice.ensures.value ∙ c.in_ok-text.ensures.text)
    c.in_ok-write.ensures
    (ap (λ (n : ℕ). goes_to c.turn.new.self (record p { end = p.end + n })) (long ∙ ap length c.in_ok-text.ensures.text))
