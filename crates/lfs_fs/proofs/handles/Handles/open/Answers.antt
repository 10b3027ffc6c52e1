use Rattle.std.proofs.Common.{arith}
use Rattle.lfs_fs.proofs.open_files.Tables.{put_back}
use Rattle.lfs_fs.proofs.handles.Handles.open.Goals as goal

pub returns : goal.returns
returns c = rw (← c.self.view_is) (put_back c.args.handle c.args.file
    (let whole = c.self.invariant in let low = c.requires in omega arith) c.deref_mut.ensures.value)
