use Rattle.lfs_model.proofs.ObjectBytes.{block_overlaid, overlays_by_blocks}
use Rattle.lfs_model.proofs.objects.block_overlaid.Goals as goal

pub returns-clause-one : goal.returns-clause-one
returns-clause-one c = block_overlaid

pub returns-clause-all : goal.returns-clause-all
returns-clause-all c = overlays_by_blocks
