-- Steps of a commit by which blocks are saved, one after the other.
use Rattle.std.proofs.Common.{◌≡◌, ◌≤◌, ◌+◌, ℕ, arith}
use Rattle.std.specs.Prelude.{Result, Ok, IsErr, IsErrAnd}
use Rattle.lfs_device.specs.declared.device.DeviceFault.{DeviceFault}
use Rattle.lfs_model.specs.Device.{DeviceState, IsLawful}
use Rattle.lfs_memory.specs.declared.memory.LogMemory.{LogMemory}
use Rattle.lfs_memory.specs.Memory.{GoesUpTo, IsMemory, Stops, room_of}
use Rattle.lfs_memory.proofs.Going.{err_ok, err_then, goes_at_most, goes_none, goes_then, ok_then, on_err, stops_then}
use Rattle.lfs_log.specs.Placing.{EndsSaving, SavesBlocks, StopsSaving, WritesNext}
use Rattle.lfs_log.specs.Telling.{orders_due}

module _ {a b : DeviceState} {v v' : LogMemory} where
  -- more places and orders may be allowed
  pub saves_at_most : {n p : ℕ} (l q : ℕ) → n ≤ l → p ≤ q → SavesBlocks a b v v' n p → SavesBlocks a b v v' l q
  saves_at_most {n} l q few less one = record {
    goes = goes_at_most a b v v' n l few one.goes;
    tells = let x = one.tells in omega (arith, x, less);
  }

  pub saving_at_most : {n p : ℕ} (l q : ℕ) → n ≤ l → p ≤ q → StopsSaving a b v v' n p → StopsSaving a b v v' l q
  saving_at_most l q few less one = record {
    stops = one.stops;
    room = let x = one.room in omega (arith, x, few);
    tells = let x = one.tells in omega (arith, x, less);
  }

  -- how a function ends that saves blocks
  pub saving_done : {T : Type 0} {x : T} {n p : ℕ} → SavesBlocks a b v v' n p
      → (let r : Result T DeviceFault = Ok x in EndsSaving a b v v' n p r)
  saving_done one = record { done = one; stopped = tt }

  pub saving_failed : {T : Type 0} {n p : ℕ} {r : Result T DeviceFault} (e : DeviceFault) → IsErr r × IsErrAnd r (λ y. y ≡ e)
      → StopsSaving a b v v' n p → EndsSaving a b v v' n p r
  saving_failed {r} e is one = record { done = err_ok r e _ is; stopped = on_err r _ one }

-- a step whose last call ends so
pub saving_from : {T : Type 0} {a b c d : DeviceState} {v v' w w' : LogMemory} {n p l q : ℕ} {r : Result T DeviceFault}
    → (SavesBlocks a b v v' n p → SavesBlocks c d w w' l q) → (StopsSaving a b v v' n p → StopsSaving c d w w' l q)
    → EndsSaving a b v v' n p r → EndsSaving c d w w' l q r
saving_from {r = r} go stop ends = record { done = ok_then r _ _ go ends.done; stopped = err_then r _ _ stop ends.stopped }

pub saves_none : {d : DeviceState} {v : LogMemory} → IsLawful d → IsMemory v → SavesBlocks d d v v 0 0
saves_none {d} {v} lawful memory = record { goes = goes_none v lawful memory; tells = omega arith }

module _ {a b c : DeviceState} {v v' v'' : LogMemory} {n p l q : ℕ} where
  pub saves_then : SavesBlocks a b v v' n p → SavesBlocks b c v' v'' l q → SavesBlocks a c v v'' (n + l) (p + q)
  saves_then one two = record {
    goes = goes_then one.goes two.goes;
    tells = let x = one.tells in let y = two.tells in omega (arith, x, y);
  }

  pub stops_behind : SavesBlocks a b v v' n p → StopsSaving b c v' v'' l q → StopsSaving a c v v'' (n + l) (p + q)
  stops_behind one two = record {
    stops = stops_then one.goes two.stops;
    room = let x = one.goes.room in let y = two.room in omega (arith, x, y);
    tells = let x = one.tells in let y = two.tells in omega (arith, x, y);
  }

-- how a function ends that writes a block to the next place
module _ {a b : DeviceState} {v v' : LogMemory} where
  pub writing_done : {T : Type 0} {x : T} → GoesUpTo 63 a b v v' 1 → orders_due b v' ≤ orders_due a v + 1
      → (let r : Result T DeviceFault = Ok x in WritesNext a b v v' r)
  writing_done one told = record { done = one; stopped = tt; room = one.room; tells = told }

  pub writing_failed : {T : Type 0} (r : Result T DeviceFault) (e : DeviceFault) → IsErr r × IsErrAnd r (λ y. y ≡ e)
      → Stops a b v → room_of v ≤ room_of v' + 1 → orders_due b v' ≤ orders_due a v + 1 → WritesNext a b v v' r
  writing_failed r e is one room told = record { done = err_ok r e _ is; stopped = on_err r _ one; room = room; tells = told }

-- a chunk that is full with a block is sealed
module _ {a b c : DeviceState} {v v' v'' : LogMemory} where
  pub sealed_then : GoesUpTo 63 a b v v' 1 → orders_due b v' ≤ orders_due a v + 1 → SavesBlocks b c v' v'' 0 0 → SavesBlocks a c v v'' 1 1
  sealed_then one told two = record {
    goes = goes_then one two.goes;
    tells = let x = two.tells in omega (arith, told, x);
  }

  pub stops_sealing : GoesUpTo 63 a b v v' 1 → orders_due b v' ≤ orders_due a v + 1 → StopsSaving b c v' v'' 0 0 → StopsSaving a c v v'' 1 1
  stops_sealing one told two = record {
    stops = stops_then one two.stops;
    room = let x = one.room in let y = two.room in omega (arith, x, y);
    tells = let x = two.tells in omega (arith, told, x);
  }
