use Rattle.std.proofs.lemmas.Result.{err_from_is_err_and}
use Rattle.std.proofs.Common.{refl, arith}
use Rattle.lfs_put.proofs.GetCalls.{copied_out, copy_breaks, copy_ends, copy_stops, copying_more}
use Rattle.lfs_put.proofs.getting.copy_out.Goals as goal

pub returns-in_err-count : goal.returns-in_err-count
returns-in_err-count g c =
    let p = err_from_is_err_and c.from_residual.result c.from_residual.ensures.1 in rw (p.1, p.2)
    (copy_stops g.D.SectorDevice.state _ _ _
    {w'' = g.W.Write.contents c.send_part.new.output} c.in_err-count.field-0.0 c.loop-part.invariant.1 c.in_err-count.ensures)

pub returns-then-count : goal.returns-then-count
returns-then-count g c =
    copy_breaks g.D.SectorDevice.state _ _ _ c.in_ok-count.count c.loop-part.invariant.1 c.in_ok-count.ensures
    c.if-count.true

pub returns-then-count-2 : goal.returns-then-count-2
returns-then-count-2 g c =
    copied_out g.D.SectorDevice.state _ _ _ c.in_ok-count.count _ c.loop-part.invariant.1 c.in_ok-count.ensures refl
    c.if-count-2.true

pub loop-part-preserved : goal.loop-part-preserved
loop-part-preserved g c =
    let at = c.loop-part.invariant.0 in
    let most = c.if-count.false in
    let least = c.if-count-2.false in (
      omega (arith, at, most, least),
      copying_more g.D.SectorDevice.state _ _ _ (g.W.Write.contents c.send_part.new.output)
          c.in_ok-count.count _ c.loop-part.invariant.1 c.in_ok-count.ensures refl (omega (arith, most, least)),
    )

pub returns : goal.returns
returns g c =
    let at = c.loop-part.invariant.0 in
    let last = c.loop-part-test.false in
    copy_ends g.D.SectorDevice.state _ _ _ _ _ _ c.loop-part.invariant.1 (omega (arith, at, last))
