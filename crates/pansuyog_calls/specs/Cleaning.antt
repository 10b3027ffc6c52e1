-- What C is told of a cleaning that is due, and what one pass does.
use Rattle.std.specs.Prelude.{◌≡◌, ◌⊎◌, ◌≤◌, ◌+◌, ℤ, pos, Option, Some, None, length}
use Rattle.lfs_model.specs.Device.{DeviceState}
use Rattle.lfs_fs.specs.Seen.{seen}
use Rattle.lfs_fs.specs.Volume.{segments_of}
use Rattle.lfs_fs.specs.declared.fs.Fs.{Fs}
use Rattle.lfs_store.specs.cleaner.Making.{CleansOnce, HasQuarter, once_orders}
use Rattle.pansuyog_calls.specs.Codes.{not_mounted}

-- C is told whether fewer than a quarter of the segments is clean
abbrev pub TellsDue : {D : Type 0} → Option (Fs D) → ℤ → Type 0
TellsDue (Some fs) code = ((code ≡ pos 1) × (HasQuarter (seen fs).log → ⊥)) ⊎ ((code ≡ pos 0) × HasQuarter (seen fs).log)
TellsDue None code = code ≡ not_mounted

module _ {D : Type 0} (state : D → DeviceState) where
  -- A mounted volume is cleaned by one pass, where one is due, if C is told that it is done. So many orders more are told at most.
  pub record IsCleanedOnce (old new : Fs D) (code : ℤ) : Type 0 where
    pub done : code ≡ pos 0 → CleansOnce state (seen old).log (seen new).log
    pub few : length (state (seen new).log.device).told
        ≤ length (state (seen old).log.device).told + once_orders (segments_of (seen old))

  abbrev pub CleansOnceIn : Option (Fs D) → Option (Fs D) → ℤ → Type 0
  CleansOnceIn (Some old) (Some new) code = IsCleanedOnce old new code
  CleansOnceIn (Some old) None code = ⊥
  CleansOnceIn None new code = (new ≡ None) × (code ≡ not_mounted)
