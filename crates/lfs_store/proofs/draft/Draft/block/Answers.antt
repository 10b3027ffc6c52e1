use Rattle.lfs_cleaner.specs.log.memory.Batch.{staged}
use Rattle.lfs_store.proofs.Readings.{says_stored}
use Rattle.lfs_store.proofs.draft.Draft.block.Goals as goal

pub returns-in-Some-clause-says : goal.returns-in-Some-clause-says
returns-in-Some-clause-says c m =
    says_stored (staged c.args.self.now.changes m) c.args.number.value c.args.index _
    c.in-Some.ensures.long c.is_zero.ensures (c.in-Some.ensures.some m)
