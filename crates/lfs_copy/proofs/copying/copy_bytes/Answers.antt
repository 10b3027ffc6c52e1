use Rattle.std.proofs.lemmas.Result.{err_from_is_err_and}
use Rattle.std.proofs.Common.{refl, arith}
use Rattle.lfs_copy.proofs.Copies.{copied, copy_breaks, copy_ends, copy_stops, copying_more, copying_none}
use Rattle.lfs_copy.proofs.copying.copy_bytes.Goals as goal

pub loop-part-init : goal.loop-part-init
loop-part-init g c = (refl, copying_none _ _)

pub returns-in_err-count : goal.returns-in_err-count
returns-in_err-count g c =
    let p = err_from_is_err_and c.from_residual.result c.from_residual.ensures.1 in rw (p.1, p.2)
    (copy_stops _ c.loop-part.invariant.1 c.in_err-count.ensures)

pub returns-then-count : goal.returns-then-count
returns-then-count g c = copy_breaks c.loop-part.invariant.1 c.in_ok-count.ensures

pub returns-then-count-2 : goal.returns-then-count-2
returns-then-count-2 g c = copied c.loop-part.invariant.1 c.in_ok-count.ensures refl c.if-count-2.true

pub loop-part-preserved : goal.loop-part-preserved
loop-part-preserved g c =
    let at = c.loop-part.invariant.0 in
    let most = c.if-count.false in
    let least = c.if-count-2.false in (
      omega (arith, at, most, least),
      copying_more c.loop-part.invariant.1 c.in_ok-count.ensures refl (omega (arith, most, least)),
    )

pub returns : goal.returns
returns g c = copy_ends c.loop-part.invariant.1
