use Rattle.std.proofs.Common.{◌∙◌, sym}
use Rattle.std.proofs.lemmas.List.{get_or-replicate}
use Rattle.lfs_inodes.proofs.Places.{word_none}
use Rattle.lfs_inodes.proofs.pointers.no_pointers.Goals as goal

pub returns : goal.returns
returns c j low = get_or-replicate 128 j 0 0 low ∙ sym (word_none j)
