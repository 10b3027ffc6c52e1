-- What a log keeps, where a call only reads, or was refused.
use Rattle.std.proofs.Common.{Bool, Option, ◌≡◌, sym, ◌∙◌, arith}
use Rattle.lfs_model.specs.Device.{Carries, DeviceState, IsLawful}
use Rattle.lfs_memory.specs.declared.memory.LogMemory.{LogMemory}
use Rattle.lfs_memory.specs.declared.pointers.PointerRun.{PointerRun}
use Rattle.lfs_memory.specs.Pointers.{KeepsRun}
use Rattle.lfs_memory.specs.Present.{Looks}
use Rattle.lfs_memory.specs.segments.Table.{UsageTable}
use Rattle.lfs_memory.proofs.PointerRuns.{run_still}
use Rattle.lfs_log.specs.Groups.{ListedKeys}
use Rattle.lfs_log.specs.Held.{HoldsUnlessHalted, IsPassMemory, IsReadyToPass, IsRunning, WaitsUnlessSaved}
use Rattle.lfs_log.proofs.EarlyBlocks.{Ended, ended_goes}

running_still : {a b : DeviceState} {v : LogMemory} → Carries a b → IsRunning a v → IsRunning b v
running_still carries is =
    let size = carries.size in
    let room = is.room in
    record {
      memory = is.memory;
      room = omega (arith, size, room);
      closed = is.closed;
      few = is.few;
      wide = is.wide;
      reserved = is.reserved;
    }

ready_still : {a b : DeviceState} {v pass : LogMemory} {keys : ListedKeys} → Looks a b → IsReadyToPass a v pass keys
    → IsReadyToPass b v pass keys
ready_still looks is = record { running = running_still looks.carries is.running; prepared = is.prepared }

pub kept_still : {a b : DeviceState} {v pass : LogMemory} {keys : ListedKeys} {upgraded saved halted : Bool} (kept : Option PointerRun)
    → Looks a b → HoldsUnlessHalted a v pass keys halted × KeepsRun a v kept × WaitsUnlessSaved v upgraded saved
    → HoldsUnlessHalted b v pass keys halted × KeepsRun b v kept × WaitsUnlessSaved v upgraded saved
kept_still {v} kept looks is =
    ((λ on. ready_still looks (is.0 on)), run_still v kept looks is.1, is.2)

-- behind a pass that was refused the next chunk begins in a clean segment
pub ready_ended : {a b : DeviceState} (v : LogMemory) {pass : LogMemory} {keys : ListedKeys} {u : UsageTable} → IsLawful a → Carries a b
    → u ≡ Ended v.usage → IsRunning a v → IsPassMemory v pass keys → IsReadyToPass b (record v { usage = u }) pass keys
ready_ended {a} v lawful carries is running prepared =
    let ended = ended_goes {d = a} v is lawful running.memory running.closed in
    let size = ended.segments in
    let room = running.room in
    let list = prepared.list in
    let limit = prepared.limit in
    record {
      running = running_still carries (record {
        memory = ended.memory;
        room = omega (arith, room, size);
        closed = running.closed;
        few = running.few;
        wide = running.wide;
        reserved = running.reserved;
      });
      prepared = record {
        segments = prepared.segments ∙ sym size;
        least = prepared.least;
        limit = omega (arith, limit, size);
        list = omega (arith, list, size);
      };
    }
