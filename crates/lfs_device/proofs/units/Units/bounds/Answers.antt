use Rattle.std.proofs.Common.{◌<◌, arith}
use Rattle.std.specs.Int.NonZero.{non_zero_u32_get}
use Rattle.lfs_device.proofs.UnitBounds.{begins, lies, lies_back}
use Rattle.lfs_device.proofs.units.Units.bounds.Goals as goal

pub returns-clause-all : goal.returns-clause-all
returns-clause-all c = λ k within same.
    let is = c.get.ensures.value in
    let nonzero = c.get.ensures.nonzero in
    let some : 0 < non_zero_u32_get c.args.self.sectors = omega (arith, is, nonzero) in
    let at = begins (non_zero_u32_get c.args.self.sectors) c.args.self.first some c.args.sector c.if-sector-self.false in
    let both = lies (non_zero_u32_get c.args.self.sectors) c.args.self.first some c.args.sector c.if-sector-self.false k same in
    let over = c.rem.ensures in
    let length = c.min.ensures in
    let from = both.0 in
    let to = both.1 in
    (omega (arith, at, over, from), omega (arith, at, over, length, to, is, within))

pub returns-clause-only : goal.returns-clause-only
returns-clause-only c = λ k from to.
    let is = c.get.ensures.value in
    let nonzero = c.get.ensures.nonzero in
    let some : 0 < non_zero_u32_get c.args.self.sectors = omega (arith, is, nonzero) in
    let at = begins (non_zero_u32_get c.args.self.sectors) c.args.self.first some c.args.sector c.if-sector-self.false in
    let over = c.rem.ensures in
    let length = c.min.ensures in
    lies_back (non_zero_u32_get c.args.self.sectors) c.args.self.first some c.args.sector c.if-sector-self.false k
    (omega (arith, at, over, from))
    (omega (arith, at, over, length, to, is))
