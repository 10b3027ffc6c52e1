use Rattle.lfs_record.proofs.recording.is_for_room.Goals as goal

pub returns-in-NoSpace : goal.returns-in-NoSpace
returns-in-NoSpace c = rw c.in-NoSpace.is tt

pub returns-in-DirFull : goal.returns-in-DirFull
returns-in-DirFull c = rw c.in-DirFull.is tt

pub returns-in-NoNumber : goal.returns-in-NoNumber
returns-in-NoNumber c = rw c.in-NoNumber.is tt
