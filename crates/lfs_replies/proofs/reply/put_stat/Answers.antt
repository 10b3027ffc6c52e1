use Rattle.std.proofs.Common.{append_assoc}
use Rattle.lfs_replies.proofs.reply.put_stat.Goals as goal

pub returns : goal.returns
returns g c = simp append_assoc (simp (c.kind_name.ensures, c.from.ensures, c.from-2.ensures) at c.put_all.ensures)
