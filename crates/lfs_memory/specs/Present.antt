-- What the log answers to reads, and what a call that only reads leaves.
use Rattle.std.specs.Prelude.{◌≡◌, ◌<◌, ◌⊎◌, ℕ, Bool, true, false, List, [], Option, Some, None, Result, OnOk, OnErr}
use Rattle.std.specs.Prelude.{◌≤◌, IfOk}
use Rattle.lfs_model.specs.declared.limits.TheConstants.{LAST_BLOCK}
use Rattle.lfs_model.specs.Checkpoint.{CheckpointValue}
use Rattle.lfs_model.specs.Content.{Content}
use Rattle.lfs_model.specs.Device.{DeviceState, cell_at}
use Rattle.lfs_model.specs.Entry.{Entry, Data, header, word}
use Rattle.lfs_model.specs.Laid.{HoldsInode}
use Rattle.lfs_model.specs.Running.{Dirty}
use Rattle.lfs_model.specs.Stands.{LogMap}
use Rattle.lfs_files.specs.declared.header.Header.{Header}
pub use Rattle.lfs_files.specs.Headers.{HeaderAnswer, as_header}
pub use Rattle.lfs_files.specs.Looking.{Looks}
use Rattle.lfs_inodes.specs.Blocks.{blocks_of}
use Rattle.lfs_inodes.specs.Present.{present}
use Rattle.lfs_memory.specs.declared.memory.LogMemory.{LogMemory}
use Rattle.lfs_memory.specs.Memory.{IsLoose}

-- Where memory and device hold a log map, a call of the device failed.
abbrev pub FailsFromDevice : DeviceState → DeviceState → LogMemory → Type 0
FailsFromDevice d d' v = (k : CheckpointValue) (m0 m : LogMap) → d'.keeps_model → IsLoose d v k m0 m → d.failures < d'.failures

-- A call that only reads: one that is done counts no failure, and one that isn't is excused by one.
pub record OnlyLooks {T E : Type 0} (d d' : DeviceState) (v : LogMemory) (result : Result T E) : Type 0 where
  pub failed : OnErr result (FailsFromDevice d d' v)
  pub no_failure : OnOk result (d'.failures ≡ d.failures)
  pub looks : Looks d d'

-- neither memory nor the device has the block of this pointer
pub record IsMissing (content : Content) (dirty : Dirty) (x : Entry) (address : ℕ) : Type 0 where
  pub inside : address ≡ 1 → dirty x ≡ None
  pub outside : (address ≡ 1 → ⊥) → cell_at content address ≡ None

-- one that isn't read: a call failed, or neither has it
abbrev pub FailsToRead : DeviceState → DeviceState → LogMemory → Entry → ℕ → Type 0
FailsToRead d d' v x address = d'.keeps_model → (d.failures < d'.failures) ⊎ IsMissing d.content (blocks_of v.dirty) x address

-- A call that reads one block: one that is done counts no failure, and one that isn't read has a reason.
pub record EndsReading {T E : Type 0} (d d' : DeviceState) (v : LogMemory) (x : Entry) (address : ℕ) (result : Result T E) : Type 0 where
  pub unread : OnErr result (FailsToRead d d' v x address)
  pub no_failure : OnOk result (d'.failures ≡ d.failures)
  pub looks : Looks d d'

-- one that is: its bytes, in memory or on the device
abbrev pub ShowsBlock : DeviceState → DeviceState → LogMemory → Entry → ℕ → List ℕ → Type 0
ShowsBlock d d' v x address out = d'.keeps_model → out ≡ present d.content (blocks_of v.dirty) x address

-- the number at a place of it
pub record ShowsWord (d d' : DeviceState) (v : LogMemory) (x : Entry) (address place found : ℕ) : Type 0 where
  pub shown : List ℕ
  pub value : d'.keeps_model → shown ≡ present d.content (blocks_of v.dirty) x address
  pub is : found ≡ word shown place

-- and what it says as an inode
pub record ShowsHeader (d d' : DeviceState) (v : LogMemory) (x : Entry) (address : ℕ) (found : Header) : Type 0 where
  pub shown : List ℕ
  pub value : d'.keeps_model → shown ≡ present d.content (blocks_of v.dirty) x address
  pub is : header shown ≡ as_header found

-- whether a file is there, and its inode
abbrev pub InodeAnswer : LogMap → ℕ → List ℕ → Bool → Type 0
InodeAnswer m n out false = m.header n ≡ None
InodeAnswer m n out true = HoldsInode n out × (m.header n ≡ Some (header out))

-- whether a block of a file is stored, and its bytes
abbrev pub BlockAnswer : LogMap → ℕ → ℕ → List ℕ → Bool → Type 0
BlockAnswer m n i out false = m.block n i ≡ []
BlockAnswer m n i out true = m.block n i ≡ out

-- where memory and device hold a log map, the answer is that one's
abbrev pub AnswersInode : DeviceState → DeviceState → LogMemory → ℕ → List ℕ → Bool → Type 0
AnswersInode d d' v n out found = (k : CheckpointValue) (m0 m : LogMap) → d'.keeps_model → IsLoose d v k m0 m → InodeAnswer m n out found

abbrev pub AnswersHeader : DeviceState → DeviceState → LogMemory → ℕ → Option Header → Type 0
AnswersHeader d d' v n h = (k : CheckpointValue) (m0 m : LogMap) → d'.keeps_model → IsLoose d v k m0 m → HeaderAnswer m n h

abbrev pub AnswersBlock : DeviceState → DeviceState → LogMemory → ℕ → ℕ → List ℕ → Bool → Type 0
AnswersBlock d d' v n i out found = (k : CheckpointValue) (m0 m : LogMap) → d'.keeps_model → IsLoose d v k m0 m
    → BlockAnswer m n i out found

-- and the address: 0 for no block, 1 for one in memory
abbrev pub AnswersAddress : DeviceState → DeviceState → LogMemory → Entry → ℕ → Type 0
AnswersAddress d d' v x address = (k : CheckpointValue) (m0 m : LogMap) → d'.keeps_model → (is : IsLoose d v k m0 m)
    → is.running.memory.at x ≡ address

-- A call that finds the pointer to data block i of file n: a stored one is of a file's block.
pub record FindsPointer {E : Type 0} (d d' : DeviceState) (v : LogMemory) (n i : ℕ) (result : Result ℕ E) : Type 0 where
  pub answer : IfOk result (AnswersAddress d d' v (Data n i))
  pub some : IfOk result (λ address. 1 ≤ address → (1 ≤ n) × (i ≤ LAST_BLOCK))
  pub looks : OnlyLooks d d' v result
