use Rattle.std.proofs.lemmas.Result.{err_from_is_err_and}
use Rattle.std.proofs.Common.{◌≡◌, length, take, arith, rules}
use Rattle.std.proofs.KnownBytes.{Keeps-refl}
use Rattle.lfs_put.proofs.PutCalls.{copy_ends, copy_refused, copy_too_long, copying_more}
use Rattle.lfs_put.proofs.putting.copy_in.Goals as goal

pub returns-in_default : goal.returns-in_default
returns-in_default g c =
    copy_ends g.D.SectorDevice.state _ _ c.loop.invariant.1 c.in_default.ensures.bytes

pub returns-in_default-checked_add : goal.returns-in_default-checked_add
returns-in_default-checked_add g c =
    let some : length (take c.in-Ok.count c.read.new.buf) ≡ c.in-Ok.count = search rules in
    let long = c.in_default-checked_add.ensures in
    copy_too_long g.D.SectorDevice.state _ (take c.in-Ok.count c.read.new.buf) c.loop.invariant.1 c.in-Ok.ensures.bytes.0
    (omega (arith, some, long))

pub returns-in_err-pwrite : goal.returns-in_err-pwrite
returns-in_err-pwrite g c =
    let p = err_from_is_err_and c.from_residual.result c.from_residual.ensures.1 in rw (p.1, p.2)
    (copy_refused g.D.SectorDevice.state _ _ _
    (g.I.Read.remaining c.read.new.self) _ c.in_err-pwrite.field-0.0 c.loop.invariant.1 c.in-Ok.ensures.bytes.0 c.in_err-pwrite.ensures)

pub loop-preserved : goal.loop-preserved
loop-preserved g c =
    let some : length (take c.in-Ok.count c.read.new.buf) ≡ c.in-Ok.count = search rules in
    let sum = c.in-Some.ensures in (
      search rules,
      copying_more g.D.SectorDevice.state _ _ _ (g.I.Read.remaining c.read.new.self)
          _ c.in-Some.end c.loop.invariant.1 c.in-Ok.ensures.bytes.0 c.in_ok-pwrite.ensures (omega (arith, some, sum)),
    )

pub returns : goal.returns
returns g c =
    copy_ends g.D.SectorDevice.state _ _ c.loop.invariant.1 (Keeps-refl _)
