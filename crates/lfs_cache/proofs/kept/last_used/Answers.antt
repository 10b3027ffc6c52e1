use Rattle.std.proofs.Common.{rules}
use Rattle.lfs_cache.proofs.Keeping as keeping
use Rattle.lfs_cache.proofs.kept.last_used.Goals as goal

pub returns-then-number-sector : goal.returns-then-number-sector
returns-then-number-sector c =
    keeping.last_used c.args.kept.now c.args.sector c.in_ok-number.number.now c.in_ok-number.row.now (search rules) c.if-number-sector.true
