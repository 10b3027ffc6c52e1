use Rattle.lfs_put.proofs.PutNames.{above_of}
use Rattle.lfs_put.proofs.putting.directory_of.Goals as goal

pub returns : goal.returns
returns c = above_of c.args.path.now c.above_len.result c.above_len.ensures.within c.above_len.ensures.plain c.above_len.ensures.place
