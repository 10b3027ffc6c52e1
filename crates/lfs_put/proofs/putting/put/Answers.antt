use Rattle.std.proofs.lemmas.Result.{err_from_is_err_and}
use Rattle.lfs_put.proofs.PutCalls.{put_none}
use Rattle.lfs_put.proofs.putting.put.Goals as goal

pub returns-in_default : goal.returns-in_default
returns-in_default g c = put_none g.D.SectorDevice.state _ _ _ tt

pub returns-in_err-unfinished : goal.returns-in_err-unfinished
returns-in_err-unfinished g c =
    let p = err_from_is_err_and c.from_residual.result c.from_residual.ensures.1 in rw (p.1, p.2)
    (put_none g.D.SectorDevice.state _ _ c.in_err-unfinished.field-0.0 c.in_err-unfinished.ensures.cause)
