use Rattle.lfs_copy.proofs.Trees.{root_widened}
use Rattle.lfs_copy.proofs.copying.widen_root.Goals as goal

pub returns : goal.returns
returns g c = root_widened c.args.version c.widen.result c.if-version-eq-NARROW_VERSION.false c.widen.ensures
