use Rattle.std.proofs.Common.{append_assoc}
use Rattle.lfs_replies.proofs.reply.put_space.Goals as goal

pub returns : goal.returns
returns g c = simp append_assoc c.put_all.ensures
