use Rattle.std.proofs.Common.{◌≡◌, ◌<◌, ℕ, length, get_or}
use Rattle.lfs_model.specs.Image.{first_name}
use Rattle.lfs_model.specs.Summary.{no_block}
use Rattle.lfs_format.proofs.image.summary_block.Given as goal

abbrev pub invariant-loop-index : goal.invariant-loop-index
invariant-loop-index l = record {
  count : length l.names ≡ 63;
  names : (k : ℕ) → k < l.index → get_or l.names k no_block ≡ first_name l.segments k;
}
