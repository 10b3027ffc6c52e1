use Rattle.lfs_store.proofs.Keepings.{same_redrafts}
use Rattle.lfs_store.proofs.files.StoreFiles.create_link.Goals as goal

pub returns-clause-redrafts : goal.returns-clause-redrafts
returns-clause-redrafts g c = same_redrafts c.create_link.ensures.keeps.log
