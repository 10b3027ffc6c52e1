use Rattle.lfs_memory.proofs.CutPointers.{clears_pointers}
use Rattle.lfs_memory.proofs.cutting.clear_pointers.Goals as goal

pub returns-clause-clears : goal.returns-clause-clears
returns-clause-clears c =
    clears_pointers _ _ c.kept_of_inode-kept.ensures c.kept_of_root-leaves.ensures c.inode.ensures c.double.ensures
    c.clear_words.ensures.changed c.clear_words-2.ensures.changed c.clear_leaf.ensures.clears
