-- What is kept of a device, and what a look-up lends.
use Rattle.std.specs.Prelude.{◌≡◌, ◌∷◌, ◌⊎◌, ◌<◌, ℕ, List, Option, Some, None, Result, IfOk, OnOk, OnErr, IsErrOf, nat_eq}
use Rattle.std.specs.Map.{lookup, remove_entry}
use Rattle.lru.specs.LruCache.{LruCache, lru_cache, promoted, put_entries}
use denote.Ref.{Bor}
use Rattle.lfs_model.specs.Device.{DeviceState, cell_at, put, MayWriteUnit, CrashWritesUnit, MayTell, IsUntouched, Carries, Elapses}
use Rattle.lfs_model.specs.Device.{BearsAll}
use Rattle.lfs_model.specs.declared.Order.TheVariants as order
use Rattle.lfs_device.specs.declared.device.DeviceFault.{DeviceFault}
use Rattle.lfs_device.specs.declared.device.ReadFault.{ReadFault}
use Rattle.lfs_device.specs.declared.device.ReadFault.TheVariants as fault

-- sectors by number, each with its bytes
abbrev pub Kept : Type 0
Kept = LruCache ℕ (List ℕ)

-- what is kept of a sector
abbrev pub kept_at : Kept → ℕ → Option (List ℕ)
kept_at kept sector = lookup (nat_eq sector) kept.entries

-- what is kept of each sector is what the device holds there, where the device keeps the device model
abbrev pub Agrees : Kept → DeviceState → Type 0
Agrees kept d = d.keeps_model → (sector : ℕ) (bytes : List ℕ) → kept_at kept sector ≡ Some bytes → cell_at d.content sector ≡ Some bytes

-- with the sector as the last that was used
abbrev pub promoted_at : Kept → ℕ → Kept
promoted_at kept sector = lru_cache (promoted (nat_eq sector) kept.entries) kept.cap

-- it is the last that was used, with these bytes
pub record IsLastUsed (kept : Kept) (sector : ℕ) (bytes : List ℕ) : Type 0 where
  pub kept_so : kept_at kept sector ≡ Some bytes
  pub stays : promoted_at kept sector ≡ kept

-- with nothing of the sector
abbrev pub without : Kept → ℕ → Kept
without kept sector = lru_cache (remove_entry (nat_eq sector) kept.entries) kept.cap

-- The sector is kept with these bytes, as the last that was used, or memory is refused and nothing is kept of it. One of
-- which something was kept is kept with them also where memory is refused.
abbrev pub KeepsAlso : ℕ → List ℕ → Kept → Kept → Type 0
KeepsAlso sector bytes old new = (new ≡ lru_cache (put_entries nat_eq old sector bytes) old.cap)
    ⊎ ((new ≡ old) × (kept_at old sector ≡ None))

-- A sector was read, or the device wasn't asked. It says what the trait says of a read, but for the bytes.
pub record OnlyReads {A : Type 0} (d d' : DeviceState) (sector : ℕ) (result : Result A ReadFault) : Type 0 where
  pub unreadable : IsErrOf result fault.Unreadable → d'.keeps_model → cell_at d.content sector ≡ None
  pub failed : IsErrOf result fault.Failed → d.failures < d'.failures
  pub no_failure : OnOk result (d'.failures ≡ d.failures)
  pub no_failure_unreadable : IsErrOf result fault.Unreadable → d'.failures ≡ d.failures
  pub no_order : d'.failed_orders ≡ d.failed_orders
  pub borne : IsErrOf result fault.Failed → BearsAll d
  pub untouched : IsUntouched d d'
  pub carries : Carries d d'
  pub time : Elapses d d'
  pub told : d'.told ≡ d.told

-- A sector is lent as the device holds it, or why not.
pub record Lends (d d' : DeviceState) (sector : ℕ) (result : Result (Bor (List ℕ)) ReadFault) : Type 0 where
  pub value : IfOk result (λ bytes. d'.keeps_model → cell_at d.content sector ≡ Some bytes.now)
  pub reads : OnlyReads d d' sector result

-- A sector was written, or not: all that the trait says of a write.
pub record PutsSector {A : Type 0} (d d' : DeviceState) (sector : ℕ) (bytes : List ℕ) (result : Result A DeviceFault) : Type 0 where
  pub written : OnOk result (d'.keeps_model → d'.content ≡ put d.content sector bytes)
  pub failed_write : OnErr result (d'.keeps_model → MayWriteUnit d.unit sector bytes d.content d'.content)
  pub crash : CrashWritesUnit sector bytes d d'
  pub failed : OnErr result (d.failures < d'.failures)
  pub failed_order : OnErr result (d.failed_orders < d'.failed_orders)
  pub borne : OnErr result (BearsAll d)
  pub no_failure : OnOk result (d'.failures ≡ d.failures)
  pub carries : Carries d d'
  pub time : Elapses d d'
  pub told : OnOk result (d'.told ≡ order.Write sector bytes ∷ d.told)
  pub may_tell : OnErr result (MayTell (order.Write sector bytes) d.told d'.told)
