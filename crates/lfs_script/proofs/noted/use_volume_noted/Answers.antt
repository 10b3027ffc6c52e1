use Rattle.std.proofs.Common.{refl}
use Rattle.lfs_script.proofs.HeardBytes.{hears_more}
use Rattle.lfs_script.proofs.Used.{used_saved, used_told}
use Rattle.lfs_script.proofs.noted.use_volume_noted.Goals as goal

pub returns-in-Ok-clause-ran : goal.returns-in-Ok-clause-ran
returns-in-Ok-clause-ran g c =
    rw c.into_device.ensures (used_told c.args.device _ _ c.in-Ok.fs _ _
    g.met.D.SectorDevice.lawful c.in-Ok.ensures.only c.in-Ok.ensures.durable
    c.in-Ok.ensures.untouched c.in-Ok.ensures.carries c.in-Ok.ensures.any_moment c.in-Ok.ensures.no_failure c.run_noted-script.ensures.ends)

pub returns-in-Ok-clause-saved : goal.returns-in-Ok-clause-saved
returns-in-Ok-clause-saved g c =
    rw c.into_device.ensures (used_saved c.args.device _ _ c.in-Ok.fs _ _
    g.met.D.SectorDevice.lawful c.in-Ok.ensures.only c.in-Ok.ensures.durable
    c.in-Ok.ensures.untouched c.in-Ok.ensures.carries c.in-Ok.ensures.any_moment c.in-Ok.ensures.no_failure c.run_noted-script.ensures.ends
    c.is_saved-is_saved.ensures.kept)

pub returns-in-Ok-clause-heard : goal.returns-in-Ok-clause-heard
returns-in-Ok-clause-heard g c =
    rw c.into_device.ensures (hears_more _ _ _ _ (λ r r' ended. (
      used_saved c.args.device _ _ c.in-Ok.fs _ _
          g.met.D.SectorDevice.lawful c.in-Ok.ensures.only c.in-Ok.ensures.durable
          c.in-Ok.ensures.untouched c.in-Ok.ensures.carries c.in-Ok.ensures.any_moment c.in-Ok.ensures.no_failure ended.0
          c.is_saved-is_saved.ensures.kept,
      ended.1,
    )) c.run_noted-script.ensures.heard)

pub returns-in-Err-clause-refused : goal.returns-in-Err-clause-refused
returns-in-Err-clause-refused g c = record {
  cause = c.in-Err.ensures.cause;
  reason = c.in-Err.ensures.reason;
  left = c.in-Err.ensures.untouched.crash;
  any_moment = c.in-Err.ensures.any_moment;
  unread = refl;
  unwritten = refl;
}
