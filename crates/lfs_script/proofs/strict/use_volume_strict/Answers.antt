use Rattle.std.proofs.Common.{refl}
use Rattle.lfs_script.proofs.Used.{used_strictly}
use Rattle.lfs_script.proofs.strict.use_volume_strict.Goals as goal

pub returns-in-Ok-clause-ran : goal.returns-in-Ok-clause-ran
returns-in-Ok-clause-ran g c =
    rw c.into_device.ensures (used_strictly c.args.device _ _ c.in-Ok.fs _
    (g.met.D.SectorDevice.lawful c.args.device) c.in-Ok.ensures.only c.in-Ok.ensures.durable
    c.in-Ok.ensures.untouched c.in-Ok.ensures.carries c.in-Ok.ensures.any_moment c.in-Ok.ensures.no_failure c.run_strict-end.ensures)

pub returns-in-Err-clause-refused : goal.returns-in-Err-clause-refused
returns-in-Err-clause-refused g c = record {
  cause = c.in-Err.ensures.cause;
  reason = c.in-Err.ensures.reason;
  left = c.in-Err.ensures.untouched.crash;
  any_moment = c.in-Err.ensures.any_moment;
  unread = refl;
  unwritten = refl;
}
