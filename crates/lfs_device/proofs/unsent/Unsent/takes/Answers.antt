use Rattle.lfs_device.proofs.RunTests.{takes_far, takes_low, takes_near, takes_next}
use Rattle.lfs_device.proofs.unsent.Unsent.takes.Goals as goal

pub returns-then-self-sector-eq1 : goal.returns-then-self-sector-eq1
returns-then-self-sector-eq1 c =
    takes_next c.args.self.now c.args.sector c.if-self-eq0.false c.if-self-sector-eq1.true c.requires

pub returns-else-self-sector-eq1 : goal.returns-else-self-sector-eq1
returns-else-self-sector-eq1 c =
    takes_low c.args.self.now c.args.sector c.if-self-eq0.false c.if-sector-self.true c.if-self-sector-eq1.false

pub returns-then-index-self : goal.returns-then-index-self
returns-then-index-self c = takes_near c.args.self.now c.args.sector c.if-self-eq0.false c.if-sector-self.false c.if-index-self.true

pub returns-else-index-self : goal.returns-else-index-self
returns-else-index-self c = takes_far c.args.self.now c.args.sector c.if-self-eq0.false c.if-sector-self.false c.if-index-self.false
