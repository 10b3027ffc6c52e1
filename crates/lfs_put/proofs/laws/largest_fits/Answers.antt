use Rattle.lfs_put.proofs.Fitting.{fits}
use Rattle.lfs_put.proofs.laws.largest_fits.Goals as goal

pub returns : goal.returns
returns c N s sound form m root blocks largest p absent b count full = fits N s sound form m root p absent b blocks largest count full
