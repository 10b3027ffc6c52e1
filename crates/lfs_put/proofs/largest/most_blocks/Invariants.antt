use Rattle.std.proofs.Common.{◌<◌, ◌≤◌, ℕ}
use Rattle.lfs_put.specs.Largest.{Fits}
use Rattle.lfs_put.specs.declared.largest.TheConstants.{MOST_BLOCKS}
use Rattle.lfs_put.proofs.largest.most_blocks.Given as goal

-- none above fits
abbrev pub invariant-loop-blocks : goal.invariant-loop-blocks
invariant-loop-blocks l = (l.blocks ≤ MOST_BLOCKS)
    × ((more : ℕ) → l.blocks < more → more ≤ MOST_BLOCKS → Fits l.need l.limit l.slot l.entries more → ⊥)

abbrev pub decreases-loop-blocks : goal.decreases-loop-blocks
decreases-loop-blocks l = l.blocks
