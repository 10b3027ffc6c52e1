use Rattle.std.proofs.Common.{◌≡◌, ◌+◌, drop, not}
use Rattle.std.specs.List.{prefix_len}
use Rattle.lfs_path.specs.Pieces.{is_slash}
use Rattle.lfs_path.proofs.text.piece_length.Given as goal

-- all bytes so far pass
abbrev pub invariant-loop-i : goal.invariant-loop-i
invariant-loop-i l = prefix_len (λ c. not (is_slash c)) l.text ≡ l.i + prefix_len (λ c. not (is_slash c)) (drop l.i l.text)
