use Rattle.std.proofs.Common.{refl}
use Rattle.lfs_store.proofs.DraftedBlocks.{found_block}
use Rattle.lfs_store.proofs.draft.last_block.Goals as goal

pub returns-then-is_block : goal.returns-then-is_block
returns-then-is_block c =
    found_block _ c.loop-place-test.true c.loop-place.invariant.0 c.loop-place.invariant.1 c.index-edits-place.is
    (c.if-is_block.ensures.yes refl)
