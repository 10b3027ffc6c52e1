use Rattle.std.proofs.Common.{◌≡◌, ◌+◌, ◌-◌, ◌/◌, ◌%◌, cond, nat_lt, refl, ap, ℕ, zero, suc}
use Rattle.lfs_model.specs.Checkpoint.{CheckpointValue}
use Rattle.lfs_model.specs.Content.{Content, block}
use Rattle.lfs_model.specs.Entry.{word}
use Rattle.lfs_model.specs.Reach.{address, inode_block, leaf_address}
use Rattle.lfs_inodes.specs.Pointed.{leaf_in}
use Rattle.lfs_inodes.proofs.laws.pointers_reach.Goals as goal

same_leaf : (content : Content) (k : CheckpointValue) (n q : ℕ) → leaf_address content k n q ≡ leaf_in content (inode_block content k n) q
same_leaf content k n zero = refl
same_leaf content k n (suc q) = refl

pub returns-clause-data : goal.returns-clause-data
unfolding address
returns-clause-data c content k n i =
    ap (λ a. cond (nat_lt i 112) (word (inode_block content k n) (8 + i)) (word (block content a) ((i - 112) % 128)))
    (same_leaf content k n ((i - 112) / 128))

pub returns-clause-leaf : goal.returns-clause-leaf
unfolding address
returns-clause-leaf c content k n q = same_leaf content k n q
