use Rattle.std.proofs.Common.{rules}
use Rattle.lfs_inodes.proofs.Maps.{empty_map}
use Rattle.lfs_inodes.proofs.map.InodeMap.new.Goals as goal

pub returns : goal.returns
returns c =
    empty_map 4096 (c.in_ok-addresses.ensures.items_if_clones_equal
    (λ y is. search rules)) (c.in_ok-hidden.ensures.items_if_clones_equal (λ y is. search rules))
