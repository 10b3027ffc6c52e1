use Rattle.std.proofs.Common.{sym, ◌∙◌}
use Rattle.lfs_fs.proofs.volume.Map.{version_of_volume}
use Rattle.lfs_fs.proofs.fs.Fs.shape.Goals as goal

pub returns-clause-model : goal.returns-clause-model
returns-clause-model g c s runs = version_of_volume runs.is ∙ sym c.version.ensures.value
