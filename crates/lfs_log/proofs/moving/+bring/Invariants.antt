use Rattle.std.proofs.Common.{◌-◌}
use Rattle.lfs_log.proofs.moving.+bring.Given as goal

abbrev pub decreases-bring : goal.decreases-bring
decreases-bring g l = 536870912 - l.key.code
