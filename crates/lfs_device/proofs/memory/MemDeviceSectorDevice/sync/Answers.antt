use Rattle.std.proofs.Common.{List, length, ap, arith, ◌∙◌, subst, sym}
use Rattle.std.proofs.lemmas.List.{length-map}
use Rattle.lfs_model.proofs.Moments.{grows_one}
use Rattle.lfs_device.specs.Rows.{settled}
use Rattle.lfs_device.specs.declared.rows.Row.{Row}
use Rattle.lfs_device.specs.Bench.{HasNoFault}
use Rattle.lfs_device.specs.declared.bench.DeviceCall.TheVariants as calls
use Rattle.lfs_device.proofs.Bearing.{bears_on}
use Rattle.lfs_device.proofs.Carried.{change_carries, counts_same}
use Rattle.lfs_device.proofs.Stops.{only_after_sync, present_after_sync, crash_after_sync, were_whole}
use Rattle.lfs_device.proofs.UnsyncedLists.{none_after_sync}
use Rattle.lfs_device.proofs.Whole.{whole_after_sync}
use Rattle.lfs_device.proofs.memory.MemDeviceSectorDevice.sync.Goals as goal

pub returns-clause-durable : goal.returns-clause-durable
returns-clause-durable c = λ kept. only_after_sync _ _ _ _ c.settle.ensures.rows

pub returns-clause-untouched : goal.returns-clause-untouched
returns-clause-untouched c =
    record { content = present_after_sync _ c.settle.ensures.rows; crash = crash_after_sync _ _ _ _ c.settle.ensures.rows }

pub invariant_of-self-2-clause-whole : goal.invariant_of-self-2-clause-whole
invariant_of-self-2-clause-whole c = whole_after_sync _ c.settle.ensures.rows c.args.self.now.whole

pub invariant_of-self-2-clause-were_whole : goal.invariant_of-self-2-clause-were_whole
invariant_of-self-2-clause-were_whole c = were_whole c.note.ensures c.args.self.now.whole c.args.self.now.were_whole

pub returns-clause-carries : goal.returns-clause-carries
returns-clause-carries c =
    change_carries _ _ _ _ _ _ _ _ _ _
    (ap (λ (l : List Row). length l) c.settle.ensures.rows ∙ length-map c.args.self.now.rows.items settled)
    c.note.ensures counts_same (λ no_fault. subst HasNoFault (sym c.call.ensures.after) (bears_on calls.Sync no_fault))
    (grows_one _ _ _ c.tell_sync.ensures)

pub invariant_of-self-2-clause-listed : goal.invariant_of-self-2-clause-listed
invariant_of-self-2-clause-listed c = none_after_sync _ _ c.settle.ensures.none c.settle.ensures.rows

pub invariant_of-self-2-clause-room : goal.invariant_of-self-2-clause-room
invariant_of-self-2-clause-room c =
    let same = ap (λ (l : List Row). length l) c.settle.ensures.rows ∙ length-map c.args.self.now.rows.items settled in
    let kept = c.settle.ensures.room in
    let room = c.args.self.now.room in
    omega (arith, same, kept, room)
