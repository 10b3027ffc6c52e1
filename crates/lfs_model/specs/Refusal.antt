-- Why a call is refused. The names are those of errno in POSIX.1-2017 where it has one; the rest is an own choice.

pub data Refusal : Type 0 where
  -- a name isn't there, or an empty path (ENOENT)
  NoEntry : Refusal
  -- a directory is needed here (ENOTDIR)
  NotDir : Refusal
  -- a directory isn't taken here (EISDIR)
  IsDir : Refusal
  -- the entry is there already (EEXIST)
  Exist : Refusal
  -- the directory has entries (ENOTEMPTY)
  NotEmpty : Refusal
  -- an argument isn't taken (EINVAL)
  Inval : Refusal
  -- a name, a path or a link's text is too long (ENAMETOOLONG)
  NameTooLong : Refusal
  -- more than 40 links followed (ELOOP)
  Loop : Refusal
  -- link or unlink of a directory (EPERM)
  Perm : Refusal
  -- the root can't be removed or renamed (EBUSY)
  Busy : Refusal
  -- no such open handle (EBADF)
  BadHandle : Refusal
  -- 64 handles are open (EMFILE)
  TooManyOpen : Refusal
  -- the link count is at 1,000 (EMLINK)
  TooManyLinks : Refusal
  -- past the greatest size of a file (EFBIG)
  FileTooBig : Refusal
  -- the need of the tree after the call exceeds the limit (ENOSPC)
  NoSpace : Refusal
  -- all 4,095 numbers are taken
  NoNumber : Refusal
  -- the directory has 1,024 entries
  DirFull : Refusal
  -- memory was refused (ENOMEM)
  NoMemory : Refusal
  -- a device call failed outside a commit (EIO)
  Device : Refusal
  -- a write, a sync or a commit failed, here or before
  Halted : Refusal
  -- the cleaner found no gain
  Stuck : Refusal
  -- the checkpoint's number is 2^62 or above
  Worn : Refusal
