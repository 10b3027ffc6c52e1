use Rattle.lfs_model.proofs.SummaryPlaces.{block_read}
use Rattle.lfs_layout.proofs.summary.block_of.Goals as goal

pub returns : goal.returns
returns c = block_read c.args.at c.args.sector.now _ _ _ c.number16_at.ensures.read c.kind_of.ensures c.number32_at.ensures.read
