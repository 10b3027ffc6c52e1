use Rattle.lfs_format.proofs.FirstMoments.{writes_then}
use Rattle.lfs_format.proofs.making.write_chunk.Goals as goal

pub returns-in_err-write_later_usage-clause-writes : goal.returns-in_err-write_later_usage-clause-writes
returns-in_err-write_later_usage-clause-writes g c =
    writes_then (g.met.D.SectorDevice.lawful _) c.write_first_blocks.ensures.writes c.write_later_usage.ensures.writes

pub returns-clause-writes : goal.returns-clause-writes
returns-clause-writes g c =
    writes_then (g.met.D.SectorDevice.lawful _) c.write_first_blocks.ensures.writes c.write_later_usage.ensures.writes
