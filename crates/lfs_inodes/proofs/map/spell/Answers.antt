use Rattle.lfs_model.specs.Fields.{Are32}
use Rattle.lfs_inodes.proofs.Maps.{are32_of}
use Rattle.lfs_inodes.proofs.map.spell.Goals as goal

pub returns-then-is_empty-clause-fits : goal.returns-then-is_empty-clause-fits
unfolding Are32
returns-then-is_empty-clause-fits c = record { count = c.requires; fits = are32_of c.args.addresses.now c.type_inv.addresses }

pub returns-clause-fits : goal.returns-clause-fits
unfolding Are32
returns-clause-fits c = record { count = c.requires; fits = are32_of c.args.addresses.now c.type_inv.addresses }
