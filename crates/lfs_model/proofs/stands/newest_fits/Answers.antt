use Rattle.lfs_model.proofs.Newest
use Rattle.lfs_model.proofs.stands.newest_fits.Goals as goal

pub returns : goal.returns
returns c = Newest.newest_fits
