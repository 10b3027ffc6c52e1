-- A device that may fail at each call, however few orders it was told.
use Rattle.lfs_model.specs.Device.{Carries, DeviceState, IsLawful}

abbrev pub bearing_nothing : DeviceState → DeviceState
bearing_nothing d = record d { bears = λ n. ⊥ }

pub bearing_nothing_lawful : (d : DeviceState) → IsLawful d → IsLawful (bearing_nothing d)
bearing_nothing_lawful d is = record {
  fits = is.fits;
  size = is.size;
  sizes = is.sizes;
  now = is.now;
  cells = is.cells;
  present = is.present;
  counts_now = is.counts_now;
  only_now = is.only_now;
  kept_now = is.kept_now;
  kept_earlier = is.kept_earlier;
  until_now = is.until_now;
  earlier = is.earlier;
}

pub bearing_nothing_carries : {old new : DeviceState} → Carries old new → Carries (bearing_nothing old) (bearing_nothing new)
bearing_nothing_carries carries = record {
  size = carries.size;
  kept_before = carries.kept_before;
  unit = carries.unit;
  failures = carries.failures;
  failed_orders = carries.failed_orders;
  failed_reads = carries.failed_reads;
  later = carries.later;
  remembers = carries.remembers;
  kept_as = carries.kept_as;
  left_as = carries.left_as;
  start = carries.start;
  told = carries.told;
  bears = λ n bears. bears;
  borne = λ n bears. absurd bears;
}
