use Rattle.lfs_fs.proofs.open_files.FreedPlaces.{closed_back}
use Rattle.lfs_fs.proofs.handles.Handles.close.Goals as goal

pub returns : goal.returns
returns c = rw (← c.self.view_is) (closed_back c.args.handle c.self.inside.files.items c.deref_mut.ensures.value)
