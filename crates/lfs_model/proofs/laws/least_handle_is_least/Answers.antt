use Rattle.std.proofs.Common.{arith}
use Rattle.lfs_model.proofs.Leasts.{least_free, least_taken}
use Rattle.lfs_model.proofs.Handles.{starts_zero}
use Rattle.lfs_model.proofs.laws.least_handle_is_least.Goals as goal

pub returns : goal.returns
returns c N s sound =
    let low = starts_zero s.handles in (
      (least_free 0 s.handles sound.handles_in_order low).1,
      λ h below.
          least_taken 0 s.handles sound.handles_in_order low h (omega arith) below,
    )
