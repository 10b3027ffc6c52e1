use Rattle.lfs_checksum.proofs.Bursts.{bursts_change_the_sum}
use Rattle.lfs_checksum.proofs.laws.bursts_change_the_sum.Goals as goal

pub returns : goal.returns
returns c = bursts_change_the_sum
