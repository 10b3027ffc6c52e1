use Rattle.std.proofs.Common.{◌∙◌, arith}
use Rattle.lfs_tree.proofs.Seeing.{inode_not, inode_there, is_inside, is_long, reads_of}
use Rattle.lfs_model.proofs.Exits.{any_error}
use Rattle.lfs_model.specs.Entry.{Inode}
use Rattle.lfs_tree.proofs.reading.read_inode.Goals as goal

pub returns-clause-answer : goal.returns-clause-answer
returns-clause-answer g c k m sees leads =
    inode_there sees.sized sees.holds (cc (leads.each c.args.number c.requires)) (omega arith)
    (c.in_ok-read_sector.ensures.block (g.D.SectorDevice.state c.args.device.now).content (reads_of sees))

pub returns-in_err-read_sector-clause-failed : goal.returns-in_err-read_sector-clause-failed
returns-in_err-read_sector-clause-failed g c = any_error c.from_residual.result _ (λ k m sees leads.
    let is = c.address-address.ensures ∙ leads.each c.args.number c.requires in
    c.in_err-read_sector.ensures.failed (g.D.SectorDevice.state c.args.device.now).content (reads_of sees)
    (is_inside sees.sized sees.holds (Inode c.args.number) is (omega arith))
    (is_long sees.sized sees.holds (Inode c.args.number) is (omega arith)))

pub returns-then-address-eq0-clause-answer : goal.returns-then-address-eq0-clause-answer
returns-then-address-eq0-clause-answer g c k m sees leads =
    inode_not sees.sized sees.holds (c.address-address.ensures ∙ leads.each c.args.number c.requires) c.if-address-eq0.true
