use Rattle.lfs_cache.proofs.Keeping.{agrees-without, elsewhere_after_write, when_done}
use Rattle.lfs_cache.proofs.sectors.Sectors.write_around.Goals as goal

pub returns-else-is_err-clause-agrees : goal.returns-else-is_err-clause-agrees
returns-else-is_err-clause-agrees g c =
    let new = g.D.SectorDevice.state c.write_around-written.new.self in
    let write = c.write_around-written in
    let written = when_done write.result _ c.is_err.ensures.value c.if-is_err.false write.ensures.written in
    rw c.forget.ensures.others (agrees-without c.args.self.now.kept c.args.sector new (rw c.forget.ensures.others at c.forget.ensures.gone)
    (elsewhere_after_write c.args.self.now.kept c.args.sector c.args.bytes.now c.requires.agrees write.ensures.carries written))
