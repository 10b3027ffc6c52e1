use Rattle.std.proofs.Common.{ℕ, List, length, ◌-◌}
use Rattle.lfs_words.proofs.Escapes.{Spells}
use Rattle.lfs_words.proofs.escape.is_spelt.Given as goal

abbrev pub invariant-loop-at : goal.invariant-loop-at
invariant-loop-at l = (bytes : List ℕ) × Spells l.word bytes l.at

abbrev pub decreases-loop-at : goal.decreases-loop-at
decreases-loop-at l = length l.word - l.at
