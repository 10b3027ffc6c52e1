use Rattle.std.proofs.Common.{append_assoc}
use Rattle.lfs_replies.proofs.reply.put_row.Goals as goal

pub returns : goal.returns
returns g c = simp append_assoc (simp (
  c.kind_name.ensures,
  c.head_of.ensures,
  c.from.ensures,
  c.from-2.ensures,
  c.from-3.ensures,
  c.as_slice.ensures.value,
) at c.put_all.ensures)
