use Rattle.lfs_fs.proofs.read.Calls.{pread_fails, pread_gives, pread_too_much, pread_without}
use Rattle.lfs_fs.proofs.Exits.{asked_fails, returned, unbegun}
use Rattle.lfs_fs.proofs.fs.Fs.pread.Goals as goal

pub returns-in_err-begin : goal.returns-in_err-begin
returns-in_err-begin g c =
    rw (returned c.from_residual.ensures) (unbegun g.met.D.SectorDevice.lawful c.in_err-begin.ensures)

pub returns-in_err-number : goal.returns-in_err-number
returns-in_err-number g c =
    rw (returned c.from_residual-in_err-number.ensures)
    (pread_without g.met.D.SectorDevice.lawful c.in_ok-begin.ensures.done c.in_err-number.field-0.0
    c.in_err-number.ensures.missing)

pub returns-then-len-gt-LONGEST_TRANSFER : goal.returns-then-len-gt-LONGEST_TRANSFER
returns-then-len-gt-LONGEST_TRANSFER g c =
    pread_too_much g.met.D.SectorDevice.lawful c.in_ok-begin.ensures.done c.args.handle c.in_ok-number.ensures.opens
    c.if-len-gt-LONGEST_TRANSFER.true

pub returns-in_err-bytes : goal.returns-in_err-bytes
returns-in_err-bytes g c =
    rw (returned c.from_residual-in_err-bytes.ensures)
    (let read = c.in_err-bytes.ensures in
    asked_fails (pread_fails g.met.D.SectorDevice.lawful c.in_ok-begin.ensures.done c.args.handle
    c.in_ok-number.ensures.opens
    _ read.only.reads) read.only read.failed)

pub returns : goal.returns
returns g c =
    let read = c.in_ok-bytes.ensures in
    pread_gives g.met.D.SectorDevice.lawful c.in_ok-begin.ensures.done _ c.in_ok-number.ensures.opens _
    read.only.reads c.if-len-gt-LONGEST_TRANSFER.false read.answer
