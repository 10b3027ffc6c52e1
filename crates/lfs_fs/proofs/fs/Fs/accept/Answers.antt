use Rattle.std.proofs.Common.{ap, Err}
use Rattle.lfs_fs.proofs.write.Ends.{turned_down}
use Rattle.lfs_fs.proofs.calls.DraftSizes.{never_large}
use Rattle.lfs_fs.proofs.fs.Fs.accept.Goals as goal

pub returns-in-Err-accept-clause-refused : goal.returns-in-Err-accept-clause-refused
returns-in-Err-accept-clause-refused g c =
    turned_down g.D.SectorDevice.state c.args.self.now record {
      alloc = c.args.self.now.alloc;
      store = c.accept.new.self;
      handles = c.args.self.now.handles;
    } c.in-Err-accept.fault c.from.ensures c.requires.running c.in-Ok.ensures.young c.in-Err-accept.ensures.accepts.kept
    record {
      room = c.in-Err-accept.ensures.accepts.told;
      one_pass = c.in-Err-accept.ensures.accepts.one_pass;
      one_commit = c.in-Err-accept.ensures.accepts.one_commit;
      idle = λ clean ample room. c.in-Err-accept.ensures.accepts.idle (c.requires.running, room) clean ample;
    }
    (λ e. c.in-Err-accept.ensures.accepts.full (ap Err e)) (λ e. c.in-Err-accept.ensures.accepts.never (ap Err e))
    (λ e. c.in-Err-accept.ensures.accepts.memory (ap Err e)) (λ e. c.in-Err-accept.ensures.accepts.device (ap Err e))
    (λ e. c.in-Err-accept.ensures.accepts.failed (ap Err e))
    (λ e. c.in-Err-accept.ensures.accepts.halted (ap Err e))

pub returns-in-Err-accept-clause-fits : goal.returns-in-Err-accept-clause-fits
returns-in-Err-accept-clause-fits g c memory rest =
    never_large c.in-Err-accept.fault _ c.from.ensures c.requires.room
    (λ e. c.in-Err-accept.ensures.accepts.fits (ap Err e) rest)
    memory
