use Rattle.std.proofs.Common.{rules}
use Rattle.pansuyog_file.proofs.making.pansuyog_file_format.Goals as goal

pub returns : goal.returns
returns c = rw (← c.volume.ensures.value) (search rules)
