-- How much room in memory a draft asks for, by its headers and blocks.
use Rattle.std.proofs.Common.{◌≤◌, ◌+◌, ◌*◌, ℕ, Bool, true, false, cond, List, [], ◌∷◌, length, Option, Some, None, arith}
use Rattle.lfs_cleaner.specs.log.memory.declared.batch.BlockEdit.{BlockEdit}
use Rattle.lfs_cleaner.specs.log.memory.declared.changes.Changes.{Changes}
use Rattle.lfs_cleaner.specs.log.memory.Batch.{room_for}
use Rattle.lfs_cleaner.specs.log.memory.Preparing.{way_from, ways_from}

-- ---- three blocks on the way to each block at most
cond_three : (b : Bool) → cond b 0 3 ≤ 3
cond_three true = omega arith
cond_three false = omega arith

pub way_most : (before : Option BlockEdit) (e : BlockEdit) → way_from before e ≤ 3
way_most None e = let le : 3 ≤ 3 = omega arith in le
way_most (Some b) e = cond_three _

ways_most : (before : Option BlockEdit) (es : List BlockEdit) → ways_from before es ≤ 3 * length es
ways_most before [] = let le : 0 ≤ 3 * 0 = omega arith in le
ways_most before (e ∷ es) =
    omega (arith, way_most before e, ways_most (Some e) es)

-- ---- what a draft asks for
pub room_few : (c : Changes) (h k : ℕ) → length c.headers.items ≤ h → length c.blocks.items ≤ k → room_for c ≤ 2 * h + 4 * k + 4
room_few c h k few low =
    omega (arith, ways_most None c.blocks.items)
