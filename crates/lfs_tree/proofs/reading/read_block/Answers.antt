use Rattle.std.proofs.Common.{◌∙◌, refl, arith}
use Rattle.std.proofs.lemmas.Result.{on_ok_weaker, on_err_weaker}
use Rattle.lfs_model.specs.Entry.{Data}
use Rattle.lfs_verify.proofs.Takes.{reads_then}
use Rattle.lfs_tree.proofs.Seeing.{block_there, block_not, data_is, data_not_lost, is_inside, is_long, looks_call, reads_of, sees_first}
use Rattle.lfs_tree.proofs.reading.read_block.Goals as goal

pub returns-in-Err-Unreadable-clause-failed : goal.returns-in-Err-Unreadable-clause-failed
returns-in-Err-Unreadable-clause-failed g c k m n sees is =
    absurd (data_not_lost sees.sized sees.holds n is c.args.index (c.in-Err-Unreadable.ensures.unreadable (cc) sees.keeps))

pub returns-then-address-eq0-clause-answer : goal.returns-then-address-eq0-clause-answer
returns-then-address-eq0-clause-answer g c k m n sees is =
    block_not sees.sized sees.holds n _ (c.in-Ok.ensures.value sees.keeps ∙ data_is sees.sized sees.holds n is c.args.index)
    c.if-address-eq0.true refl

pub returns-clause-answer : goal.returns-clause-answer
returns-clause-answer g c = on_ok_weaker c.read_sector.result (λ read k m n sees is.
    let looks = looks_call (g.met.D.SectorDevice.lawful c.args.device.now) c.locate.ensures.follows.looks in
    let some = c.if-address-eq0.false in
    block_there sees.sized sees.holds n (c.in-Ok.ensures.value (sees_first sees c.read_sector.ensures.keeps.looks).keeps
    ∙ data_is sees.sized sees.holds n is c.args.index)
    (omega arith) (read (g.D.SectorDevice.state c.args.device.now).content (reads_then (reads_of sees) looks)))
    c.read_sector.ensures.block

pub returns-clause-failed : goal.returns-clause-failed
returns-clause-failed g c = on_err_weaker c.read_sector.result (λ fails k m n sees is.
    let looks = looks_call (g.met.D.SectorDevice.lawful c.args.device.now) c.locate.ensures.follows.looks in
    let some = c.if-address-eq0.false in
    let at = c.in-Ok.ensures.value (sees_first sees c.read_sector.ensures.keeps.looks).keeps
    ∙ data_is sees.sized sees.holds n is c.args.index in
    let rose = fails (g.D.SectorDevice.state c.args.device.now).content (reads_then (reads_of sees) looks)
    (is_inside sees.sized sees.holds (Data n c.args.index) at (omega arith))
    (is_long sees.sized sees.holds (Data n c.args.index) at (omega arith)) in
    omega arith)
    c.read_sector.ensures.failed

pub returns-in-Err-Failed-clause-failed : goal.returns-in-Err-Failed-clause-failed
returns-in-Err-Failed-clause-failed g c k m n sees is = c.in-Err-Failed.ensures.follows.failed (cc)
