use Rattle.std.proofs.Common.{◌∙◌, sym}
use Rattle.std.specs.Cmp.Lexicographic.{same_text}
use Rattle.std.proofs.lemmas.Result.{err_from_is_err_and}
use Rattle.lfs_record.proofs.Begun.{kept_closed, kept_empty, kept_unclosed, kept_unread, kept_whole}
use Rattle.lfs_record.proofs.beginning.keep_open.Goals as goal

pub returns-then-size-eq0 : goal.returns-then-size-eq0
returns-then-size-eq0 g c = kept_empty g.D.SectorDevice.state c.args.handle c.args.day c.args.size _ c.if-size-eq0.true

pub returns-in-Err : goal.returns-in-Err
returns-in-Err g c =
    kept_unread g.D.SectorDevice.state c.args.handle c.args.day c.args.size _ _ _ c.in-Err.fault _ c.in-Err.ensures c.close-closed.ensures

pub returns-then-eq : goal.returns-then-eq
returns-then-eq g c =
    kept_whole g.D.SectorDevice.state c.args.handle c.args.day c.args.size _ _ c.in-Ok.last.items c.in-Ok.ensures
    (sym c.as_slice.ensures.value ∙ same_text c.as_slice.result.now c.as_slice-2.result.now c.if-eq.ensures ∙ c.as_slice-2.ensures)

pub returns-in_err-close : goal.returns-in_err-close
returns-in_err-close g c =
    let p = err_from_is_err_and c.from_residual.result c.from_residual.ensures.1 in rw (p.1, p.2)
    (kept_unclosed g.D.SectorDevice.state c.args.handle c.args.day c.args.size _ _ _ c.in-Ok.last.items c.in_err-close.field-0.0
    c.in-Ok.ensures c.in_err-close.ensures)

pub returns : goal.returns
returns g c =
    kept_closed g.D.SectorDevice.state c.args.handle c.args.day c.args.size _ _ _ c.in-Ok.last.items c.in-Ok.ensures c.in_ok-close.ensures
