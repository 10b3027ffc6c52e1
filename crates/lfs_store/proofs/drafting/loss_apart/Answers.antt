use Rattle.lfs_store.proofs.Apart.{nothing_apart, link_apart, blocks_apart, file_apart}
use Rattle.lfs_store.proofs.drafting.loss_apart.Goals as goal

pub returns-clause-nothing : goal.returns-clause-nothing
returns-clause-nothing c = nothing_apart

pub returns-clause-link : goal.returns-clause-link
returns-clause-link c = link_apart

pub returns-clause-blocks : goal.returns-clause-blocks
returns-clause-blocks c = blocks_apart

pub returns-clause-file : goal.returns-clause-file
returns-clause-file c = file_apart
