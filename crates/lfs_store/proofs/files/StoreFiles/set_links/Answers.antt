use Rattle.lfs_store.proofs.Keepings.{same_redrafts}
use Rattle.lfs_store.proofs.files.StoreFiles.set_links.Goals as goal

pub returns-clause-redrafts : goal.returns-clause-redrafts
returns-clause-redrafts g c = same_redrafts c.set_links.ensures.keeps.log
