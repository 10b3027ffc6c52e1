use Rattle.lfs_fs.proofs.Prelude.{refl, seen}
use Rattle.lfs_steps.proofs.widen.Steps.{widen_refused}
use Rattle.lfs_fs.proofs.Exits.{returned}
use Rattle.lfs_fs.proofs.fs.Fs.widen.Goals as goal

pub returns-in_err-number : goal.returns-in_err-number
returns-in_err-number g c =
    rw (returned c.from_residual.ensures)
    (c.in_err-number.ensures.refused _ refl refl refl (λ N s. widen_refused N s _))

pub returns : goal.returns
returns g c = c.widen_at.ensures (seen c.args.self.now) c.args.path.now c.in_ok-number.ensures.found
