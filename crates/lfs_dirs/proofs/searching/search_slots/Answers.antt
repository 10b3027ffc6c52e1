use Rattle.std.proofs.Common.{◌≡◌, ◌≢◌, ◌*◌, Some, sym}
use Rattle.lfs_model.specs.Fields.{part}
use Rattle.lfs_model.specs.Slot.{SlotValue, slot_in}
use Rattle.lfs_model.specs.Tree.{slot_len}
use Rattle.lfs_dirs.proofs.Scans.{scan_hit, scan_miss, scan_end}
use Rattle.lfs_dirs.proofs.searching.search_slots.Goals as goal

pub returns-then-has_name-clause-found : goal.returns-then-has_name-clause-found
returns-then-has_name-clause-found c =
    let is : slot_in c.args.form (part (slot_len c.args.form * c.loop-place.place) (slot_len c.args.form) c.args.block.now)
    ≡ Some c.in-Some.view = cc in
    scan_hit c.args.form c.args.block.now c.args.count c.args.name.now c.loop-place.place _ c.loop-place-test.true
    c.loop-place.invariant is (sym ((c.has_name.ensures c.args.form c.in-Some.view cc).0 c.if-has_name.true)) c.number.ensures

pub loop-place-preserved : goal.loop-place-preserved
loop-place-preserved c =
    let other : (s : SlotValue) → slot_in c.args.form (part (slot_len c.args.form * c.loop-place.place)
    (slot_len c.args.form) c.args.block.now) ≡ Some s → c.args.name.now ≢ s.name = λ s is same. (
    let yes = (c.has_name.ensures c.args.form s (cc)).1 (sym same) in
    cc) in
    scan_miss c.args.form c.args.block.now c.args.count c.args.name.now c.loop-place.place c.loop-place-test.true c.loop-place.invariant
    other

pub returns-clause-found : goal.returns-clause-found
returns-clause-found c =
    scan_end c.args.form c.args.block.now c.args.count c.args.name.now c.loop-place.place c.loop-place-test.false c.loop-place.invariant
