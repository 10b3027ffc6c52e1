use Rattle.std.proofs.Common.{◌-◌}
use Rattle.lfs_memory.proofs.present.+locate.Given as goal

abbrev pub decreases-locate : goal.decreases-locate
decreases-locate g l = 536870912 - l.key.code
