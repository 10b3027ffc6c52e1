use Rattle.std.proofs.Common.{length}
use Rattle.lfs_log.proofs.committing.save.Goals as goal
use Rattle.lfs_memory.proofs.Going.{ok_then, err_then}
use Rattle.lfs_log.proofs.Saves.{commits_closed, fails_closed, room_there, spared_closed}

pub save_open-requires-clause-room : goal.save_open-requires-clause-room
save_open-requires-clause-room g c = room_there c.args.memory.now (length c.args.memory.now.dirty.blocks) c.requires.clean

pub save_open-requires-clause-spare : goal.save_open-requires-clause-spare
save_open-requires-clause-spare g c = spared_closed c.args.memory.now c.requires.closed c.requires.spare

pub returns-clause-done : goal.returns-clause-done
returns-clause-done g c = ok_then _ _ _ (commits_closed c.requires.closed) c.save_open.ensures.done

pub returns-clause-stopped : goal.returns-clause-stopped
returns-clause-stopped g c = err_then _ _ _ (fails_closed c.requires.closed) c.save_open.ensures.stopped
