use Rattle.std.proofs.Common.{sym, ◌∙◌, true, false}
use Rattle.lfs_record.proofs.Scanning.{oldest_none, oldest_step}
use Rattle.lfs_record.proofs.files.oldest.Goals as goal

pub returns-then-is_older : goal.returns-then-is_older
returns-then-is_older c =
    let e = c.index-entries-place in
    sym c.loop-place.invariant
    ∙ oldest_step c.args.entries.now c.loop-place.place e.result e.is c.loop-place-test.true c.args.number true
    (sym c.is_older.ensures ∙ c.if-is_older.true)

pub loop-place-preserved : goal.loop-place-preserved
loop-place-preserved c =
    let e = c.index-entries-place in
    sym (oldest_step c.args.entries.now c.loop-place.place e.result e.is c.loop-place-test.true c.args.number false
    (sym c.is_older.ensures ∙ c.if-is_older.false))
    ∙ c.loop-place.invariant

pub returns : goal.returns
returns c = sym c.loop-place.invariant ∙ oldest_none c.args.entries.now c.loop-place.place c.args.number c.loop-place-test.false
