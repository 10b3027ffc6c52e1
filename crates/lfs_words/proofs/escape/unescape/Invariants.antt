use Rattle.std.proofs.Common.{◌≤◌, ◌-◌, length, vec_capacity}
use Rattle.lfs_words.proofs.Escapes.{Spells}
use Rattle.lfs_words.proofs.escape.unescape.Given as goal

abbrev pub invariant-loop-at : goal.invariant-loop-at
invariant-loop-at l = (length l.word ≤ vec_capacity l.bytes) × Spells l.word l.bytes.items l.at

abbrev pub decreases-loop-at : goal.decreases-loop-at
decreases-loop-at l = length l.word - l.at
