use Rattle.std.proofs.Common.{◌&&◌, Bool, ap, refl}
use Rattle.lfs_log.proofs.Volumes.{answers_log, is_removed, is_kept}
use Rattle.lfs_log.proofs.log.Log.remove.Goals as goal

pub returns-in_default-clause-kept : goal.returns-in_default-clause-kept
returns-in_default-clause-kept g c =
    let kept = c.in_default.ensures.kept in rw (← c.self.view_is) (is_kept refl refl kept.2 refl refl refl kept.1)

pub returns-in_default-clause-failed : goal.returns-in_default-clause-failed
returns-in_default-clause-failed g c = rw (← c.self.view_is) (answers_log _ c.in_default.ensures.failed)

pub returns-clause-done : goal.returns-clause-done
returns-clause-done g c =
    let done = c.in-Ok.ensures.done in
    rw (← c.self.view_is) (is_removed refl refl done.2 refl refl c.requires
    (ap (λ (hidden : Bool). c.self.inside.saved && hidden) c.is_hidden-nameless.ensures) done.1)
