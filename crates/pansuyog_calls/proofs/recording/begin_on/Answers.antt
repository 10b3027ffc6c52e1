use Rattle.std.proofs.Common.{Option, refl, rules, subst}
use Rattle.std.specs.Prelude.{Result, Ok, Err, min}
use Rattle.lfs_fs.specs.Seen.{seen}
use Rattle.lfs_fs.specs.declared.error.FsError.{FsError}
use Rattle.lfs_record.specs.Asking.{BeginsOn}
use Rattle.lfs_record.specs.Recording.{Closes}
use Rattle.lfs_record.specs.declared.recorder.Recorder.{Recorder}
use Rattle.lfs_record.specs.declared.recorder.TheConstants.{MOST_BYTES}
use Rattle.lfs_volume.specs.Found.{by_volume}
use Rattle.pansuyog_calls.specs.Recording.{present_of}
use Rattle.pansuyog_calls.proofs.recording.begin_on.Goals as goal

pub returns-in-Ok : goal.returns-in-Ok
returns-in-Ok g c = let state = by_volume g.D.SectorDevice.state in record {
  between = seen c.close_present-closed.new.fs;
  closed = c.close_present-closed.result;
  closes = subst (λ (was : Option Recorder). Closes state (seen c.args.fs.now) (seen c.close_present-closed.new.fs) (present_of was)
      c.close_present-closed.result) c.take.ensures.value c.close_present-closed.ensures;
  outcome = Ok c.in-Ok.begun;
  begins = subst (λ (outcome : Result Recorder FsError). BeginsOn state (seen c.close_present-closed.new.fs) (seen c.begin.new.fs)
      (min c.args.bytes MOST_BYTES) c.args.files outcome) c.in-Ok.is c.begin.ensures;
  tells = (refl, refl);
}

pub returns-in-Err : goal.returns-in-Err
returns-in-Err g c = let state = by_volume g.D.SectorDevice.state in record {
  between = seen c.close_present-closed.new.fs;
  closed = c.close_present-closed.result;
  closes = subst (λ (was : Option Recorder). Closes state (seen c.args.fs.now) (seen c.close_present-closed.new.fs) (present_of was)
      c.close_present-closed.result) c.take.ensures.value c.close_present-closed.ensures;
  outcome = Err c.in-Err.fault;
  begins = subst (λ (outcome : Result Recorder FsError). BeginsOn state (seen c.close_present-closed.new.fs) (seen c.begin.new.fs)
      (min c.args.bytes MOST_BYTES) c.args.files outcome) c.in-Err.is c.begin.ensures;
  tells = (search rules, c.take.ensures.after);
}
