use Rattle.std.proofs.Common.{◌≡◌, ◌+◌, ◌*◌, ◌++◌, length, take}
use Rattle.std.specs.List.{flat_map}
use Rattle.lfs_model.specs.Fields.{le16, zeros}
use Rattle.lfs_model.specs.Summary.{summary_entry}
use Rattle.lfs_layout.proofs.summary.encode_summary.Given as goal

abbrev pub invariant-loop-block : goal.invariant-loop-block
invariant-loop-block l = record {
  written : l.sector ≡ (le16 (length l.blocks) ++ zeros 6) ++ flat_map summary_entry (take l.block-index l.blocks);
  long : length l.sector ≡ 8 + 8 * l.block-index;
}
