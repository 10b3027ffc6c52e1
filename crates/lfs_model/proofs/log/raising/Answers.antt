use Rattle.lfs_model.proofs.Raising.{raised_kept, raised_laid, raised_tree}
use Rattle.lfs_model.proofs.log.raising.Goals as goal

pub returns-clause-laid : goal.returns-clause-laid
returns-clause-laid c = raised_laid

pub returns-clause-kept : goal.returns-clause-kept
returns-clause-kept c = raised_kept

pub returns-clause-tree : goal.returns-clause-tree
returns-clause-tree c = raised_tree
