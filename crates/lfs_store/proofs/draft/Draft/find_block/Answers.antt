use Rattle.lfs_store.proofs.DraftedBlocks.{says_block, says_no_block}
use Rattle.lfs_store.proofs.draft.Draft.find_block.Goals as goal

pub returns-in_default-clause-none : goal.returns-in_default-clause-none
returns-in_default-clause-none c = says_no_block c.args.self.now.changes _ _ (rw (← c.deref.ensures.value) c.in_default.ensures)

pub returns-clause-some : goal.returns-clause-some
returns-clause-some c =
    says_block c.args.self.now.changes (rw (← c.deref.ensures.value) c.in-Some.ensures) c.index.ensures
