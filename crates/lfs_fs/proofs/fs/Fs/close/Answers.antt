use Rattle.lfs_fs.proofs.open_files.Closes.{close_shared, close_unopened}
use Rattle.lfs_fs.proofs.Exits.{after_begin, returned, unbegun}
use Rattle.lfs_fs.proofs.fs.Fs.close.Goals as goal

pub close-requires : goal.close-requires
close-requires g c = c.in_ok-number.ensures.within

pub close_last-requires-clause-place : goal.close_last-requires-clause-place
close_last-requires-clause-place g c = c.in_ok-number.ensures.within

pub returns-in_err-begin : goal.returns-in_err-begin
returns-in_err-begin g c =
    rw (returned c.from_residual.ensures) (unbegun g.met.D.SectorDevice.lawful c.in_err-begin.ensures)

pub returns-in_err-number : goal.returns-in_err-number
returns-in_err-number g c =
    rw (returned c.from_residual-in_err-number.ensures)
    (after_begin c.in_ok-begin.ensures.done (λ running.
    close_unopened g.met.D.SectorDevice.lawful _ running _ c.in_err-number.field-0.0 c.in_err-number.ensures.missing))

pub returns-then-is_shared : goal.returns-then-is_shared
returns-then-is_shared g c =
    after_begin c.in_ok-begin.ensures.done (λ running. close_shared _ g.met.D.SectorDevice.lawful c.begin.new.self
    running
    _ _ c.in_ok-number.ensures.opens c.close.new.self c.close.ensures (c.is_shared.ensures.shared c.if-is_shared.true))

pub returns : goal.returns
returns g c =
    after_begin c.in_ok-begin.ensures.done (λ running.
    c.close_last.ensures c.in_ok-number.ensures.opens (c.is_shared.ensures.single c.if-is_shared.false))
