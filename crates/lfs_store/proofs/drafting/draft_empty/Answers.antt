use Rattle.lfs_store.proofs.Apart.{draft_empty}
use Rattle.lfs_store.proofs.drafting.draft_empty.Goals as goal

pub returns : goal.returns
returns c = draft_empty
