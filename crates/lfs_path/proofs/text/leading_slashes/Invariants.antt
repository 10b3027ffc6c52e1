use Rattle.std.proofs.Common.{◌≡◌, ◌+◌, drop}
use Rattle.std.specs.List.{prefix_len}
use Rattle.lfs_path.specs.Pieces.{is_slash}
use Rattle.lfs_path.proofs.text.leading_slashes.Given as goal

-- all bytes so far pass
abbrev pub invariant-loop-i : goal.invariant-loop-i
invariant-loop-i l = prefix_len is_slash l.text ≡ l.i + prefix_len is_slash (drop l.i l.text)
