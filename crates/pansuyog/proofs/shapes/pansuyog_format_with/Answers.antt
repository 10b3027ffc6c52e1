use Rattle.std.proofs.Common.{refl, rules}
use Rattle.pansuyog.proofs.Tried.{make_not_tried, make_tried}
use Rattle.pansuyog.proofs.shapes.pansuyog_format_with.Goals as goal

pub returns : goal.returns
returns c =
    make_tried _ _ c.in-Ok.device c.make_with-code.new.device
    c.volume-volume.ensures.value c.in-Ok.ensures.unmounted c.in-Ok.ensures.taken c.in-Ok.ensures.listing refl c.in-Ok.ensures.fs refl
    (search rules)

pub returns-in-Err : goal.returns-in-Err
returns-in-Err c = make_not_tried c.volume-volume.ensures.value c.in-Err.ensures.refused
