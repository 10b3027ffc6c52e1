use Rattle.lfs_inodes.proofs.Maps.{spelled_shown}
use Rattle.lfs_inodes.proofs.map.InodeMap.encode_shown.Goals as goal

pub returns-clause-some : goal.returns-clause-some
returns-clause-some c shows =
    spelled_shown c.spell.ensures.fits c.shown_block.ensures (c.spell.ensures.some shows) (c.spell.ensures.shows shows)
