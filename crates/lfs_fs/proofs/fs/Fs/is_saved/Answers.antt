use Rattle.std.proofs.Common.{sym, ◌∙◌}
use Rattle.lfs_fs.proofs.save.Saved.{saved_left}
use Rattle.lfs_fs.proofs.fs.Fs.is_saved.Goals as goal

pub returns-clause-kept : goal.returns-clause-kept
returns-clause-kept g c saved = saved_left g.D.SectorDevice.state _ (sym c.is_saved.ensures ∙ saved)
