use Rattle.std.proofs.Common.{◌<◌, ℕ, get_or}
use Rattle.lfs_model.specs.Summary.{IsPlaced, no_block}
use Rattle.lfs_layout.proofs.summary.is_summary.Given as goal

abbrev pub invariant-loop-block : goal.invariant-loop-block
invariant-loop-block l = (i : ℕ) → i < l.block-index
    → IsPlaced (get_or l.blocks i no_block).kind (get_or l.blocks i no_block).file (get_or l.blocks i no_block).index
