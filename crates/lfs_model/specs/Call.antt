-- The calls of a volume and their answers (POSIX.1-2017: open, close, pread, pwrite, ftruncate, mkdir, link, symlink, readlink,
-- unlink, rmdir, rename, stat, lstat, readdir, fsync, sync). A path is a list of bytes; clean, space, version, upgrade, widen and
-- tree are own choices.
use Rattle.std.specs.Prelude.{ℕ, ◌<◌, ◌^◌, Bool, true, false, ◌||◌, List}
use Rattle.lfs_model.specs.Bytes.{AreBytes}
use Rattle.lfs_model.specs.Refusal.{Refusal}
use Rattle.lfs_model.specs.declared.Kind.{Kind}

pub data Call : Type 0 where
  -- the path
  Open : List ℕ → Call
  Create : List ℕ → Call
  -- the handle
  Close : ℕ → Call
  -- the handle, the offset and the length
  Pread : ℕ → ℕ → ℕ → Call
  -- the handle, the offset and the bytes
  Pwrite : ℕ → ℕ → List ℕ → Call
  -- the handle and the length
  Truncate : ℕ → ℕ → Call
  Mkdir : List ℕ → Call
  -- the path that is there and the new one
  LinkTo : List ℕ → List ℕ → Call
  -- the link's text and its path
  Symlink : List ℕ → List ℕ → Call
  Readlink : List ℕ → Call
  Unlink : List ℕ → Call
  Rmdir : List ℕ → Call
  -- the path that is there and the new one
  Rename : List ℕ → List ℕ → Call
  StatOf : List ℕ → Call
  LstatOf : List ℕ → Call
  Readdir : List ℕ → Call
  Fsync : ℕ → Call
  Sync : Call
  Clean : Call
  Space : Call
  Version : Call
  Upgrade : Call
  Widen : List ℕ → Call
  ListTree : Call

-- What the arguments of a call can be: handles and lengths of pread are numbers of 32 bits, offsets and lengths of truncate of 64,
-- and texts are bytes.
abbrev pub AreArguments : Call → Type 0
AreArguments (Open p) = AreBytes p
AreArguments (Create p) = AreBytes p
AreArguments (Close h) = h < 2 ^ 32
AreArguments (Pread h off n) = (h < 2 ^ 32) × (off < 2 ^ 64) × (n < 2 ^ 32)
AreArguments (Pwrite h off w) = (h < 2 ^ 32) × (off < 2 ^ 64) × AreBytes w
AreArguments (Truncate h n) = (h < 2 ^ 32) × (n < 2 ^ 64)
AreArguments (Mkdir p) = AreBytes p
AreArguments (LinkTo p q) = AreBytes p × AreBytes q
AreArguments (Symlink text p) = AreBytes text × AreBytes p
AreArguments (Readlink p) = AreBytes p
AreArguments (Unlink p) = AreBytes p
AreArguments (Rmdir p) = AreBytes p
AreArguments (Rename p q) = AreBytes p × AreBytes q
AreArguments (StatOf p) = AreBytes p
AreArguments (LstatOf p) = AreBytes p
AreArguments (Readdir p) = AreBytes p
AreArguments (Fsync h) = h < 2 ^ 32
AreArguments Sync = Unit {0}
AreArguments Clean = Unit {0}
AreArguments Space = Unit {0}
AreArguments Version = Unit {0}
AreArguments Upgrade = Unit {0}
AreArguments (Widen p) = AreBytes p
AreArguments ListTree = Unit {0}

-- the calls that may change the tree, or the version of its layout
abbrev pub changes : Call → Bool
changes (Open p) = false
changes (Create p) = true
changes (Close h) = false
changes (Pread h off n) = false
changes (Pwrite h off w) = true
changes (Truncate h n) = true
changes (Mkdir p) = true
changes (LinkTo p q) = true
changes (Symlink text p) = true
changes (Readlink p) = false
changes (Unlink p) = true
changes (Rmdir p) = true
changes (Rename p q) = true
changes (StatOf p) = false
changes (LstatOf p) = false
changes (Readdir p) = false
changes (Fsync h) = false
changes Sync = false
changes Clean = false
changes Space = false
changes Version = false
changes Upgrade = true
changes (Widen p) = true
changes ListTree = false

-- the calls that leave the state as it is
abbrev pub leaves_state : Call → Bool
leaves_state (Open p) = false
leaves_state (Create p) = false
leaves_state (Close h) = false
leaves_state (Pread h off n) = true
leaves_state (Pwrite h off w) = false
leaves_state (Truncate h n) = false
leaves_state (Mkdir p) = false
leaves_state (LinkTo p q) = false
leaves_state (Symlink text p) = false
leaves_state (Readlink p) = true
leaves_state (Unlink p) = false
leaves_state (Rmdir p) = false
leaves_state (Rename p q) = false
leaves_state (StatOf p) = true
leaves_state (LstatOf p) = true
leaves_state (Readdir p) = true
leaves_state (Fsync h) = true
leaves_state Sync = true
leaves_state Clean = true
leaves_state Space = true
leaves_state Version = true
leaves_state Upgrade = false
leaves_state (Widen p) = false
leaves_state ListTree = true

-- the calls that commit: after their Ok a stop loses nothing of what was before (POSIX.1-2017: fsync, sync)
abbrev pub commits : Call → Bool
commits (Open p) = false
commits (Create p) = false
commits (Close h) = false
commits (Pread h off n) = false
commits (Pwrite h off w) = false
commits (Truncate h n) = false
commits (Mkdir p) = false
commits (LinkTo p q) = false
commits (Symlink text p) = false
commits (Readlink p) = false
commits (Unlink p) = false
commits (Rmdir p) = false
commits (Rename p q) = false
commits (StatOf p) = false
commits (LstatOf p) = false
commits (Readdir p) = false
commits (Fsync h) = true
commits Sync = true
commits Clean = false
commits Space = false
commits Version = false
commits Upgrade = false
commits (Widen p) = false
commits ListTree = false

-- the call that cleans (the 1992 LFS paper: segment cleaning)
abbrev pub cleans : Call → Bool
cleans (Open p) = false
cleans (Create p) = false
cleans (Close h) = false
cleans (Pread h off n) = false
cleans (Pwrite h off w) = false
cleans (Truncate h n) = false
cleans (Mkdir p) = false
cleans (LinkTo p q) = false
cleans (Symlink text p) = false
cleans (Readlink p) = false
cleans (Unlink p) = false
cleans (Rmdir p) = false
cleans (Rename p q) = false
cleans (StatOf p) = false
cleans (LstatOf p) = false
cleans (Readdir p) = false
cleans (Fsync h) = false
cleans Sync = false
cleans Clean = true
cleans Space = false
cleans Version = false
cleans Upgrade = false
cleans (Widen p) = false
cleans ListTree = false

-- the calls that may write to the device
abbrev pub may_write : Call → Bool
may_write call = changes call || commits call || cleans call

-- the calls that are never refused for memory
abbrev pub takes_no_memory : Call → Bool
takes_no_memory (Open p) = false
takes_no_memory (Create p) = false
takes_no_memory (Close h) = true
takes_no_memory (Pread h off n) = false
takes_no_memory (Pwrite h off w) = false
takes_no_memory (Truncate h n) = false
takes_no_memory (Mkdir p) = false
takes_no_memory (LinkTo p q) = false
takes_no_memory (Symlink text p) = false
takes_no_memory (Readlink p) = false
takes_no_memory (Unlink p) = false
takes_no_memory (Rmdir p) = false
takes_no_memory (Rename p q) = false
takes_no_memory (StatOf p) = false
takes_no_memory (LstatOf p) = false
takes_no_memory (Readdir p) = false
takes_no_memory (Fsync h) = true
takes_no_memory Sync = true
takes_no_memory Clean = false
takes_no_memory Space = true
takes_no_memory Version = true
takes_no_memory Upgrade = false
takes_no_memory (Widen p) = false
takes_no_memory ListTree = false

-- the calls that are never refused because a call of the device failed: those that commit are halted then
abbrev pub never_for_device : Call → Bool
never_for_device (Open p) = false
never_for_device (Create p) = false
never_for_device (Close h) = false
never_for_device (Pread h off n) = false
never_for_device (Pwrite h off w) = false
never_for_device (Truncate h n) = false
never_for_device (Mkdir p) = false
never_for_device (LinkTo p q) = false
never_for_device (Symlink text p) = false
never_for_device (Readlink p) = false
never_for_device (Unlink p) = false
never_for_device (Rmdir p) = false
never_for_device (Rename p q) = false
never_for_device (StatOf p) = false
never_for_device (LstatOf p) = false
never_for_device (Readdir p) = false
never_for_device (Fsync h) = true
never_for_device Sync = true
never_for_device Clean = false
never_for_device Space = false
never_for_device Version = true
never_for_device Upgrade = false
never_for_device (Widen p) = false
never_for_device ListTree = false

-- what stat tells (POSIX.1-2017, stat: st_ino, the file type, st_nlink, st_size)
pub record Stat : Type 0 where
  pub number : ℕ
  pub kind : Kind
  pub links : ℕ
  pub size : ℕ

-- what readdir tells of an entry (POSIX.1-2017, readdir: d_name, d_ino)
pub record DirectoryEntry : Type 0 where
  pub name : List ℕ
  pub number : ℕ
  pub kind : Kind

-- what tree tells of an entry, with the beginning of what it gives
pub record TreeRow : Type 0 where
  pub directory : ℕ
  pub name : List ℕ
  pub stat : Stat
  pub head : List ℕ

pub data Answer : Type 0 where
  Refuse : Refusal → Answer
  Done : Answer
  -- a new handle
  Handle : ℕ → Answer
  -- how many bytes were written
  Count : ℕ → Answer
  -- the bytes that were read
  Data : List ℕ → Answer
  -- a link's text
  Text : List ℕ → Answer
  Status : Stat → Answer
  Entries : List DirectoryEntry → Answer
  -- data blocks, meta blocks, need and limit
  Room : ℕ → ℕ → ℕ → ℕ → Answer
  -- the version of the layout
  FormatVersion : ℕ → Answer
  Rows : List TreeRow → Answer

-- it isn't refused
abbrev pub is_ok : Answer → Bool
is_ok (Refuse r) = false
is_ok _ = true
