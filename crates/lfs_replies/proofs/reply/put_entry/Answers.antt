use Rattle.std.proofs.Common.{append_assoc}
use Rattle.lfs_replies.proofs.reply.put_entry.Goals as goal

pub returns : goal.returns
returns g c = simp append_assoc (simp (c.kind_name.ensures, c.from.ensures, c.as_slice.ensures.value) at c.put_all.ensures)
