-- A memory device without a fault: no call of it fails.
use Rattle.std.proofs.Common.{◌≡◌, Bool, true, false, Option, ℕ, sym, ◌∙◌, ap, ap₂}
use Rattle.std.specs.Prelude.{◌||◌}
use Rattle.lfs_device.specs.Bench.{HasNoFault, after_call, fails_at, is_due, one_less, stops_now}
use Rattle.lfs_device.specs.declared.bench.Bench.{Bench}
use Rattle.lfs_device.specs.declared.bench.DeviceCall.{DeviceCall}
use Rattle.lfs_device.specs.declared.bench.DeviceCall.TheVariants.{Read, Write, Sync}

never_stops : {bench : Bench} → HasNoFault bench → (stops_now bench.stop bench.writes || bench.stopped) ≡ false
never_stops {bench} none = ap₂ (λ (stop : Option ℕ) (stopped : Bool). stops_now stop bench.writes || stopped) none.stop none.stopped

pub never_fails : (call : DeviceCall) {bench : Bench} → HasNoFault bench → fails_at call bench ≡ false
never_fails Read none = ap₂ (λ (fault : Option ℕ) (stopped : Bool). is_due fault || stopped) none.reads none.stopped
never_fails Write none = ap₂ (λ (fault : Option ℕ) (stopped : Bool). is_due fault || stopped) none.writes (never_stops none)
never_fails Sync none = ap₂ (λ (fault : Option ℕ) (stopped : Bool). is_due fault || stopped) none.syncs none.stopped

pub bears_on : (call : DeviceCall) {bench : Bench} → HasNoFault bench → HasNoFault (after_call call bench)
bears_on Read none = record {
  stop = none.stop;
  stopped = none.stopped;
  reads = ap one_less none.reads;
  writes = none.writes;
  syncs = none.syncs;
}
bears_on Write none = record {
  stop = none.stop;
  stopped = never_stops none;
  reads = none.reads;
  writes = ap one_less none.writes;
  syncs = none.syncs;
}
bears_on Sync none = record {
  stop = none.stop;
  stopped = none.stopped;
  reads = none.reads;
  writes = none.writes;
  syncs = ap one_less none.syncs;
}

pub fault_fails : (call : DeviceCall) {bench : Bench} → HasNoFault bench → fails_at call bench ≡ true → ⊥
fault_fails call none fails = let both : true ≡ false = sym fails ∙ never_fails call none in absurd (cc)
