use Rattle.lfs_checksum.proofs.Behind.{sum_behind, bursts_are_seen}
use Rattle.lfs_checksum.proofs.laws.bursts_are_seen.Goals as goal

pub returns-clause-fixed : goal.returns-clause-fixed
returns-clause-fixed c = sum_behind

pub returns-clause-seen : goal.returns-clause-seen
returns-clause-seen c = bursts_are_seen
