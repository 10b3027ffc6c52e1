use Rattle.lfs_cache.proofs.Keeping.{agrees-also, elsewhere_after_write, cell_at-put}
use Rattle.lfs_cache.proofs.sectors.Sectors.write.Goals as goal

pub returns-in-Ok-clause-agrees : goal.returns-in-Ok-clause-agrees
returns-in-Ok-clause-agrees g c =
    let old = g.D.SectorDevice.state c.args.self.now.device in
    let new = g.D.SectorDevice.state c.write.new.self in
    let law = g.met.D.SectorDevice.lawful c.args.self.now.device in
    agrees-also c.args.self.now.kept c.keep.new.kept c.args.sector c.args.bytes.now new c.keep.ensures
    (elsewhere_after_write c.args.self.now.kept c.args.sector c.args.bytes.now c.requires.agrees c.write.ensures.carries
    c.in-Ok.ensures.written)
    (λ keeps. rw (c.in-Ok.ensures.written keeps) (cell_at-put old.content c.args.sector c.args.bytes.now (rw law.size c.requires.within)))
