use Rattle.lfs_inodes.proofs.Maps.{spelled_shown, spells_map}
use Rattle.lfs_inodes.proofs.map.InodeMap.encode.Goals as goal

pub returns-in-Some-clause-some : goal.returns-in-Some-clause-some
returns-in-Some-clause-some c shows =
    spelled_shown c.spell.ensures.fits c.in-Some.ensures.each (c.spell.ensures.some shows) (c.spell.ensures.shows shows)

pub returns-in-Some-clause-written : goal.returns-in-Some-clause-written
returns-in-Some-clause-written c m t is settled shows =
    spells_map m t is c.requires (returns-in-Some-clause-some c shows) settled

pub returns-clause-written : goal.returns-clause-written
returns-clause-written c m t is settled shows =
    spells_map m t is c.requires (c.encode_shown.ensures.some shows) settled
