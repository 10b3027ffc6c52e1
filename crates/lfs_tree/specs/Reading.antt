-- What is read of a content that holds a log map.
-- All of it is an own choice.
use Rattle.std.specs.Prelude.{◌≡◌, ◌<◌, ℕ, Bool, true, false, List, get_or, Option, Some, None}
use Rattle.std.specs.Option.{option_map}
use Rattle.lfs_model.specs.Checkpoint.{CheckpointValue}
use Rattle.lfs_model.specs.Content.{Content, block}
use Rattle.lfs_model.specs.declared.limits.TheConstants.{FILE_NUMBERS}
use Rattle.lfs_model.specs.Decodes.{IsSized}
use Rattle.lfs_model.specs.Device.{DeviceState}
use Rattle.lfs_model.specs.Entry.{Inode, header}
use Rattle.lfs_model.specs.Reach.{address}
use Rattle.lfs_model.specs.Stands.{HoldsAt, LogMap}
use Rattle.lfs_files.specs.declared.header.Header.{Header}
use Rattle.lfs_files.specs.Headers.{as_header}
use Rattle.lfs_inodes.specs.MapValue.{MapValue, address_in}

-- A device that keeps the device model was read, and its content holds this log map.
pub record Sees (old new : DeviceState) (k : CheckpointValue) (m : LogMap) : Type 0 where
  pub keeps : new.keeps_model
  pub holds : HoldsAt old.content k m
  pub sized : IsSized old.content

-- the inode map in memory leads to the inodes of all files
pub record Leads (c : Content) (k : CheckpointValue) (map : MapValue) : Type 0 where
  pub each : (n : ℕ) → n < FILE_NUMBERS → address_in map n ≡ address c k (Inode n)

-- these bytes are the inode of file n
pub record IsInodeOf (c : Content) (k : CheckpointValue) (m : LogMap) (n : ℕ) (bytes : List ℕ) : Type 0 where
  pub header : m.header n ≡ Some (header bytes)
  pub block : bytes ≡ block c (address c k (Inode n))

-- whether file n is there, and its inode then
abbrev pub InodeAnswer : Content → CheckpointValue → LogMap → ℕ → List ℕ → Bool → Type 0
InodeAnswer c k m n bytes true = IsInodeOf c k m n bytes
InodeAnswer c k m n bytes false = m.header n ≡ None

-- the headers of the files below a number, by number
abbrev pub TellsHeaders : LogMap → List (Option Header) → ℕ → Type 0
TellsHeaders m headers upto = (n : ℕ) → n < upto → m.header n ≡ option_map as_header (get_or headers n None)

-- ---- what calls say

-- a call of the device failed
abbrev pub FailsToRead : DeviceState → DeviceState → Type 0
FailsToRead old new = old.failures < new.failures

-- Of each log map that the device holds, and to which the inode map leads, this is so.
abbrev pub OfLog : DeviceState → DeviceState → MapValue → (CheckpointValue → LogMap → Type 0) → Type 0
OfLog old new map P = (k : CheckpointValue) (m : LogMap) → Sees old new k m → Leads old.content k map → P k m

-- The same where these are its headers.
abbrev pub OfHeaders : DeviceState → DeviceState → MapValue → List (Option Header) → (CheckpointValue → LogMap → Type 0) → Type 0
OfHeaders old new map headers P = (k : CheckpointValue) (m : LogMap) → Sees old new k m → Leads old.content k map
    → TellsHeaders m headers FILE_NUMBERS → P k m

-- Of each log map that the device holds, and a file of it that has this inode, this is so.
abbrev pub OfInode : DeviceState → DeviceState → List ℕ → (LogMap → ℕ → Type 0) → Type 0
OfInode old new inode P = (k : CheckpointValue) (m : LogMap) (n : ℕ) → Sees old new k m
    → inode ≡ block old.content (address old.content k (Inode n)) → P m n

-- The same of one file.
abbrev pub OfInodeAt : DeviceState → DeviceState → List ℕ → ℕ → (LogMap → Type 0) → Type 0
OfInodeAt old new inode n P = (k : CheckpointValue) (m : LogMap) → Sees old new k m
    → inode ≡ block old.content (address old.content k (Inode n)) → P m
