use Rattle.lfs_segments.proofs.Once.{each_once}
use Rattle.lfs_segments.proofs.chunk.writes_each_sector_once.Goals as goal

pub returns : goal.returns
returns c = each_once
