use Rattle.lfs_fs.proofs.write.Exits.{cut_refused, cut_unopened}
use Rattle.lfs_fs.proofs.Exits.{after_begin, returned, unbegun}
use Rattle.lfs_fs.proofs.fs.Fs.truncate.Goals as goal

pub returns-in_err-begin : goal.returns-in_err-begin
returns-in_err-begin g c =
    rw (returned c.from_residual.ensures) (unbegun g.met.D.SectorDevice.lawful c.in_err-begin.ensures)

pub returns-in_err-number : goal.returns-in_err-number
returns-in_err-number g c =
    rw (returned c.from_residual-in_err-number.ensures)
    (after_begin c.in_ok-begin.ensures.done (λ running.
    cut_unopened g.met.D.SectorDevice.lawful _ running _ c.args.len c.in_err-number.field-0.0
    c.in_err-number.ensures.missing))

pub returns-then-len-gt-LARGEST_FILE : goal.returns-then-len-gt-LARGEST_FILE
returns-then-len-gt-LARGEST_FILE g c =
    after_begin c.in_ok-begin.ensures.done (λ running.
    cut_refused g.met.D.SectorDevice.lawful _ running _ c.in_ok-number.ensures.opens c.args.len
    c.if-len-gt-LARGEST_FILE.true)
