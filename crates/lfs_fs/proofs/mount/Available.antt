-- Where the device bears what a mount tells it, a volume is refused for memory alone.
use Rattle.lfs_fs.proofs.Prelude.{◌≡◌, ◌≤◌, ◌+◌, length, refl, arith, DeviceState, Carries, IsMountFault}
use Rattle.lfs_store.specs.log.verify.declared.fault.MountFault.{MountFault}
use Rattle.lfs_store.specs.log.verify.declared.fault.MountFault.TheVariants.{NoMemory, Device, TooSmall, NoCheckpoint, Damaged}
use Rattle.lfs_fs.specs.Available.{MountIsAvailable}

pub available : {old new : DeviceState} → Carries old new → length new.told ≤ length old.told + 1 → (fault : MountFault)
    → ((fault ≡ NoMemory → ⊥) → IsMountFault old new fault) → MountIsAvailable old new fault
available carries told NoMemory cause keeps s stands bears = refl
available {old} {new} carries told Device cause keeps s stands bears = absurd (
    let rose = cause (λ e. cc) s keeps stands in
    let same = carries.borne _ bears (omega (arith, told)) in
    omega (arith, rose, same))
available carries told TooSmall cause keeps s stands bears = absurd (cause (λ e. cc) s keeps stands)
available carries told NoCheckpoint cause keeps s stands bears = absurd (cause (λ e. cc) s keeps stands)
available carries told (Damaged code) cause keeps s stands bears = absurd (cause (λ e. cc) s keeps stands)
