use Rattle.std.proofs.Common.{arith}
use Rattle.lfs_memory.proofs.CutPointers.{clears_leaf}
use Rattle.lfs_memory.proofs.cutting.clear_leaf.Goals as goal

pub returns-clause-clears : goal.returns-clause-clears
returns-clause-clears c =
    clears_leaf _ _ _ c.leaf-leaf.ensures (omega arith) (omega arith) (omega arith) c.clear_words.ensures.changed
