use Rattle.lfs_inodes.proofs.PresentPointers.{present_is_laid}
use Rattle.lfs_inodes.proofs.laws.present_pointers_are_laid.Goals as goal

pub returns : goal.returns
returns c = present_is_laid
