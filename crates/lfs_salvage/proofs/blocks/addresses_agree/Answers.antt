use Rattle.lfs_salvage.proofs.Pointed as pointed
use Rattle.lfs_salvage.proofs.blocks.addresses_agree.Goals as goal

pub returns : goal.returns
returns c = pointed.addresses_agree
