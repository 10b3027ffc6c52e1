use Rattle.std.proofs.Common.{refl, rules}
use Rattle.pansuyog_calls.proofs.Made.{not_found, not_mounted}
use Rattle.pansuyog_calls.proofs.making.mount_on.Goals as goal

pub mount-requires : goal.mount-requires
mount-requires g c = c.in-Ok.ensures.whole

pub returns-in-Ok-mount-clause-mounts : goal.returns-in-Ok-mount-clause-mounts
returns-in-Ok-mount-clause-mounts g c =
    let ensured = c.in-Ok-mount.ensures in
    rw c.requires.nothing (
      refl,
      c.in-Ok.found,
      c.in-Ok.ensures.found,
      record {
        mounts = ensured.mounts;
        only = ensured.only;
        durable = ensured.durable;
        no_failure = ensured.no_failure;
        untouched = ensured.untouched;
        carries = ensured.carries;
        any_moment = ensured.any_moment;
      },
    )

pub returns-in-Err-mount-clause-mounts : goal.returns-in-Err-mount-clause-mounts
returns-in-Err-mount-clause-mounts g c =
    let ensured = c.in-Err-mount.ensures in
    rw c.requires.unmounted (
      c.in-Err-mount.fault,
      search rules,
      not_mounted g.D.SectorDevice.state c.args.device c.in-Ok.found c.in-Err-mount.refused c.in-Ok.ensures.found
          c.into_inner.ensures.device ensured.reason ensured.untouched ensured.carries ensured.any_moment,
    )

pub returns-in-Err-clause-mounts : goal.returns-in-Err-clause-mounts
returns-in-Err-clause-mounts g c =
    rw c.requires.unmounted (
      c.in-Err.fault,
      search rules,
      not_found g.D.SectorDevice.state c.args.device c.in-Err.device c.in-Err.ensures.refused,
    )
