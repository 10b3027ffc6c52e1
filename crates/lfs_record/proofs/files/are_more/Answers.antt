use Rattle.std.proofs.Common.{◌≡◌, ◌+◌, sym, ◌∙◌, true, false, arith, drop, map}
use Rattle.lfs_fs.specs.Answers.{entry_of}
use Rattle.lfs_record.specs.Files.{count_files}
use Rattle.lfs_record.proofs.Scanning.{count_end, count_step}
use Rattle.lfs_record.proofs.files.are_more.Goals.{else-is_recorded, then-is_recorded+else-left-eq0}
use Rattle.lfs_record.proofs.files.are_more.Goals as goal

pub returns-then-left-eq0 : goal.returns-then-left-eq0
returns-then-left-eq0 c =
    let e = c.index-entries-place in
    let xs = c.args.entries.now in
    let at : count_files (map entry_of (drop c.loop-place.place xs)) ≡ 1 + count_files (map entry_of (drop (c.loop-place.place + 1) xs)) =
    count_step xs c.loop-place.place e.result e.is c.loop-place-test.true true (sym c.is_recorded.ensures ∙ c.if-is_recorded.true) in
    let so = c.loop-place.invariant in
    let none = c.if-left-eq0.true in
    omega (arith, at, so, none)

pub returns : goal.returns
returns c =
    let none = count_end c.args.entries.now c.loop-place.place c.loop-place-test.false in
    let so = c.loop-place.invariant in
    omega (arith, none, so)

pub loop-place-preserved : goal.loop-place-preserved
loop-place-preserved c =
    let e = c.index-entries-place in
    let xs = c.args.entries.now in
    let so = c.loop-place.invariant in
    elim c.if-is_recorded.branch [
      | then-is_recorded+else-left-eq0 w ↦ (
          let at : count_files (map entry_of (drop c.loop-place.place xs)) ≡ 1 + count_files (map entry_of (drop
          (c.loop-place.place + 1) xs)) =
          count_step xs c.loop-place.place e.result e.is c.loop-place-test.true true (sym c.is_recorded.ensures ∙ w.if-is_recorded.true) in
          let some = w.if-left-eq0.false in
          let is = w.left-is in
          omega (arith, at, so, some, is))
      | else-is_recorded w ↦ (
          let at : count_files (map entry_of (drop c.loop-place.place xs)) ≡ 0 + count_files (map entry_of (drop
          (c.loop-place.place + 1) xs)) =
          count_step xs c.loop-place.place e.result e.is c.loop-place-test.true false (sym c.is_recorded.ensures
          ∙ w.if-is_recorded.false) in
          let is = w.left-is in
          omega (arith, at, so, is))
    ]
