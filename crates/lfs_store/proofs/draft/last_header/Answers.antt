use Rattle.lfs_store.proofs.Drafts.{found_header}
use Rattle.lfs_store.proofs.draft.last_header.Goals as goal

pub returns-then-edits-place : goal.returns-then-edits-place
returns-then-edits-place c =
    found_header _ c.loop-place-test.true c.loop-place.invariant.0 c.loop-place.invariant.1 c.index-edits-place.is c.if-edits-place.true
