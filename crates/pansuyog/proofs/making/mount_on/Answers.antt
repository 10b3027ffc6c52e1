use Rattle.std.proofs.Common.{refl, rules}
use Rattle.lfs_fs.specs.Seen.{seen}
use Rattle.pansuyog.specs.Making.{MountsIn}
use Rattle.pansuyog.proofs.Mounted.{keeps_always, not_found, not_mounted}
use Rattle.pansuyog.proofs.making.mount_on.Goals as goal

pub mount-requires : goal.mount-requires
mount-requires c = c.in-Ok.ensures.whole

pub returns-in-Ok-mount-clause-mounts : goal.returns-in-Ok-mount-clause-mounts
returns-in-Ok-mount-clause-mounts c =
    let ensured = c.in-Ok-mount.ensures in
    let mounts : MountsIn c.in-Ok.found c.in-Ok-mount.fs = record {
      mounts = ensured.mounts;
      only = ensured.only;
      durable = ensured.durable (keeps_always (seen c.in-Ok-mount.fs).log.device);
      no_failure = ensured.no_failure;
      untouched = ensured.untouched;
      carries = ensured.carries;
      any_moment = ensured.any_moment;
    } in
    rw c.requires.nothing (refl, (c.in-Ok.found, c.in-Ok.ensures.found, mounts))

pub returns-in-Err-mount-clause-mounts : goal.returns-in-Err-mount-clause-mounts
returns-in-Err-mount-clause-mounts c =
    let ensured = c.in-Err-mount.ensures in
    rw c.requires.unmounted (
      c.in-Err-mount.fault,
      search rules,
      not_mounted c.args.device c.in-Ok.found c.in-Err-mount.refused c.in-Ok.ensures.found c.into_inner.ensures.device ensured.reason
          ensured.untouched ensured.carries ensured.any_moment,
    )

pub returns-in-Err-clause-mounts : goal.returns-in-Err-clause-mounts
returns-in-Err-clause-mounts c =
    rw c.requires.unmounted (
      c.in-Err.fault,
      search rules,
      not_found c.args.device c.in-Err.device c.in-Err.ensures.refused,
    )
