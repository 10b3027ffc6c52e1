use Rattle.std.proofs.Common.{rules}
use Rattle.pansuyog_file.proofs.shapes.pansuyog_file_format_with.Goals as goal

pub returns : goal.returns
returns c = rw (← c.volume.ensures.value) (search rules)
