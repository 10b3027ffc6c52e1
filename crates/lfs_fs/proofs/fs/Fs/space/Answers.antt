use Rattle.lfs_fs.proofs.Prelude.{seen}
use Rattle.lfs_fs.proofs.read.Ends.{begun_space}
use Rattle.lfs_fs.proofs.Exits.{returned, unbegun}
use Rattle.lfs_fs.proofs.fs.Fs.space.Goals as goal

pub returns-in_err-begin : goal.returns-in_err-begin
returns-in_err-begin g c =
    rw (returned c.from_residual.ensures) (unbegun g.met.D.SectorDevice.lawful c.in_err-begin.ensures)

pub returns : goal.returns
returns g c =
    begun_space g.D.SectorDevice.state (g.met.D.SectorDevice.lawful (seen c.begin.new.self).log.device)
    c.in_ok-begin.ensures.done c.space_of.result
    (rw c.space.ensures at c.space_of.ensures.stored)
    (rw c.space.ensures at c.space_of.ensures.above)
    (rw c.space.ensures at c.space_of.ensures.need)
    c.space_of.ensures.limit
