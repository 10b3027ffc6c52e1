use Rattle.lfs_store.proofs.ReadParts.{appends}
use Rattle.lfs_store.proofs.reading.append.Goals as goal

pub returns-in-Ok-extend_from_slice-clause-done : goal.returns-in-Ok-extend_from_slice-clause-done
returns-in-Ok-extend_from_slice-clause-done g c =
    appends _ c.requires.inside c.read_block.array_long c.in-Ok-extend_from_slice.ensures.items c.in-Ok.ensures.answer c.in-Ok.ensures.zeros
