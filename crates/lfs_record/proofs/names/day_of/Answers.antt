use Rattle.lfs_record.proofs.Digits.{day_is}
use Rattle.lfs_record.proofs.names.day_of.Goals as goal

pub returns : goal.returns
returns c = day_is c.args.name.now c.requires
