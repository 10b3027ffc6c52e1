use Rattle.lfs_fs.proofs.Prelude.{arith}
use Rattle.lfs_fs.proofs.list.Trees.{tree_fails, tree_full, tree_gives, tree_more, tree_none}
use Rattle.lfs_fs.proofs.Exits.{asked_fails, returned, unbegun}
use Rattle.lfs_fs.proofs.fs.Fs.tree.Goals as goal

pub returns-in_err-begin : goal.returns-in_err-begin
returns-in_err-begin g c =
    rw (returned c.from_residual.ensures) (unbegun g.met.D.SectorDevice.lawful c.in_err-begin.ensures)

pub loop-number-init : goal.loop-number-init
loop-number-init g c = tree_none g.D.SectorDevice.state c.in_ok-begin.ensures.done c.new-rows.ensures.items

pub loop-number-preserved : goal.loop-number-preserved
loop-number-preserved g c =
    tree_more g.met.D.SectorDevice.lawful c.loop-number.invariant _ c.in_ok-more.ensures.only.reads
    c.loop-number-test.true _ _
    c.in-Ok.ensures.items c.in_ok-more.ensures.answer

pub returns-in_err-more : goal.returns-in_err-more
returns-in_err-more g c =
    rw (returned c.from_residual-in_err-more.ensures)
    (let list = c.in_err-more.ensures in
    asked_fails (tree_fails g.met.D.SectorDevice.lawful c.loop-number.invariant _ list.only.reads) list.only
    list.failed)

pub returns : goal.returns
returns g c =
    let high = c.loop-number.auto.number-end (omega arith) in
    let ended = c.loop-number-test.false in
    tree_gives g.met.D.SectorDevice.lawful c.loop-number.invariant (omega (arith, high, ended))

pub returns-in_default : goal.returns-in_default
returns-in_default g c =
    tree_full g.met.D.SectorDevice.lawful c.loop-number.invariant _ c.in_ok-more.ensures.only.reads
