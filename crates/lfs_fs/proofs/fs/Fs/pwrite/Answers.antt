use Rattle.lfs_fs.proofs.Prelude.{◌∙◌, sym, arith}
use Rattle.lfs_fs.proofs.write.Exits.{none_of, some_of, write_none, write_none_worn, write_past}
use Rattle.lfs_fs.proofs.write.Exits.{write_refused, write_unopened}
use Rattle.lfs_fs.proofs.Exits.{after_begin, returned, unbegun}
use Rattle.lfs_fs.proofs.fs.Fs.pwrite.Goals as goal

pub returns-in_err-begin : goal.returns-in_err-begin
returns-in_err-begin g c =
    rw (returned c.from_residual.ensures) (unbegun g.met.D.SectorDevice.lawful c.in_err-begin.ensures)

pub returns-in_err-number : goal.returns-in_err-number
returns-in_err-number g c =
    rw (returned c.from_residual-in_err-number.ensures)
    (after_begin c.in_ok-begin.ensures.done (λ running. write_unopened g.met.D.SectorDevice.lawful _ running
    _ _ _ _ c.in_err-number.ensures.missing))

pub returns-then-bytes : goal.returns-then-bytes
returns-then-bytes g c =
    after_begin c.in_ok-begin.ensures.done (λ running. write_refused g.met.D.SectorDevice.lawful _ running
    _ c.in_ok-number.ensures.opens _ _ c.if-bytes.true)

pub returns-in-Ok : goal.returns-in-Ok
returns-in-Ok g c =
    after_begin c.in_ok-begin.ensures.done (λ running. write_none g.met.D.SectorDevice.lawful _ running
    _ c.in_ok-number.ensures.opens _ _ (omega (arith, c.if-bytes.false))
    (none_of _ (sym c.is_empty.ensures ∙ c.if-is_empty.true)) c.in-Ok.ensures.young)

pub returns-in-Err : goal.returns-in-Err
returns-in-Err g c =
    after_begin c.in_ok-begin.ensures.done (λ running. write_none_worn g.met.D.SectorDevice.lawful _ running
    _ c.in_ok-number.ensures.opens _ _ (omega (arith, c.if-bytes.false))
    (none_of _ (sym c.is_empty.ensures ∙ c.if-is_empty.true)) c.in-Err.ensures.fault c.in-Err.ensures.old)

pub returns-then-offset-len : goal.returns-then-offset-len
returns-then-offset-len g c =
    after_begin c.in_ok-begin.ensures.done (λ running. write_past g.met.D.SectorDevice.lawful _ running
    _ c.in_ok-number.ensures.opens _ _ (omega (arith, c.if-bytes.false))
    (some_of _ (sym c.is_empty.ensures ∙ c.if-is_empty.false)) (omega (arith, c.if-offset-len.true)))
