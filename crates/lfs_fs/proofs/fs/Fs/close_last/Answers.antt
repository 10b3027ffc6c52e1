use Rattle.lfs_fs.proofs.Prelude.{ap, Err}
use Rattle.lfs_fs.proofs.calls.Files.{here_begun}
use Rattle.lfs_fs.proofs.open_files.Closes.{close_faults, close_last, close_named, close_unread}
use Rattle.lfs_fs.proofs.Exits.{returned}
use Rattle.lfs_fs.proofs.fs.Fs.close_last.Goals as goal

pub forget-requires : goal.forget-requires
forget-requires g c = record { empty = c.header_of.ensures.reads.empty c.requires.ready.empty }

pub returns-in_err-header : goal.returns-in_err-header
returns-in_err-header g c opens shut =
    rw (returned c.from_residual.ensures)
    (let read = c.in_err-header.ensures in
    close_unread _ g.met.D.SectorDevice.lawful c.args.self.now c.requires.ready.running _ _ opens
    (here_begun _ g.met.D.SectorDevice.lawful c.requires.ready c.requires.counted) _ read.reads _
    (λ e. read.halted (ap Err e)) (λ e. read.other (ap Err e)) read.failed)

pub returns-then-header-gt0 : goal.returns-then-header-gt0
returns-then-header-gt0 g c opens shut =
    close_named _ g.met.D.SectorDevice.lawful c.args.self.now c.requires.ready.running _ _ opens
    (here_begun _ g.met.D.SectorDevice.lawful c.requires.ready c.requires.counted) _ c.header_of.ensures.reads
    _ c.in_ok-header.ensures.answer c.close.new.self c.close.ensures c.if-header-gt0.true

pub returns-in-Ok : goal.returns-in-Ok
returns-in-Ok g c opens shut =
    close_last _ g.met.D.SectorDevice.lawful c.args.self.now c.requires.ready.running _ _ opens
    (here_begun _ g.met.D.SectorDevice.lawful c.requires.ready c.requires.counted) _ c.header_of.ensures.reads
    _ c.in_ok-header.ensures.answer c.forget.new.self c.close-in-Ok.new.self c.close-in-Ok.ensures c.if-header-gt0.false shut
    c.in-Ok.ensures.done c.in-Ok.ensures.counted

pub returns-in-Err : goal.returns-in-Err
returns-in-Err g c opens shut =
    close_faults _ g.met.D.SectorDevice.lawful c.args.self.now c.requires.ready.running _ _ opens
    (here_begun _ g.met.D.SectorDevice.lawful c.requires.ready c.requires.counted) _ c.header_of.ensures.reads
    _ c.in_ok-header.ensures.answer
    c.forget.new.self c.in-Err.fault c.from.ensures c.in-Err.ensures.kept c.in-Err.ensures.failed c.in-Err.ensures.same
    (λ on. c.in-Err.ensures.halted (ap Err on)) (λ full. c.in-Err.ensures.other (ap Err full))
