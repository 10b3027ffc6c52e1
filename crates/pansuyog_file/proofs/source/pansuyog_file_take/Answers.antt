use Rattle.std.proofs.Common.{rules}
use Rattle.pansuyog_file.specs.Sources.{to_read, to_write}
use Rattle.pansuyog_file.proofs.source.pansuyog_file_take.Goals as goal
use Rattle.pansuyog_file.proofs.source.pansuyog_file_take.Goals.{in-0, in-1}

pub returns : goal.returns
returns c =
    elim c.match-flags.branch [
      | in-0 w ↦ to_write (search rules) (rw (← w.access-is, ← c.volume.ensures.value) (search rules))
      | in-1 w ↦ to_read (search rules) (rw (← w.access-is, ← c.volume.ensures.value) (search rules))
    ]
