use Rattle.lfs_fs.proofs.Prelude.{◌∙◌, ap, handles_of}
use Rattle.lfs_fs.proofs.open_files.Tables.{none_open}
use Rattle.lfs_fs.proofs.handles.Handles.new.Goals as goal

pub returns : goal.returns
returns c = ap handles_of c.loop.invariant ∙ none_open c.loop.counter
