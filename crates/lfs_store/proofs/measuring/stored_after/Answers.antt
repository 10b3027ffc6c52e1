use Rattle.lfs_cleaner.specs.log.memory.Batch.{staged}
use Rattle.lfs_store.proofs.Measured.{says_test}
use Rattle.lfs_store.proofs.measuring.stored_after.Goals as goal

pub returns-in-Some : goal.returns-in-Some
returns-in-Some c m =
    says_test (staged c.args.draft.now.changes m) c.args.number.value c.args.index _
    c.in-Some.ensures.long c.is_zero.ensures (c.in-Some.ensures.some m)
