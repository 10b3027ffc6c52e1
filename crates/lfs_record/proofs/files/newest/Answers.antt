use Rattle.std.proofs.Common.{◌-◌, true, ap, sym, ◌∙◌, length, arith}
use Rattle.lfs_fs.specs.Answers.{entry_of}
use Rattle.lfs_record.specs.Names.{is_name}
use Rattle.lfs_record.proofs.Scanning.{newest_back, newest_of}
use Rattle.lfs_record.proofs.files.newest.Goals as goal

pub returns-then-is_name : goal.returns-then-is_name
returns-then-is_name c =
    let e = c.index-entries-entries in
    let xs = c.args.entries.now in
    let low = c.loop-behind-test.true in
    newest_of xs (length xs - 1 - c.loop-behind.behind) (entry_of e.result)
    (newest_back xs (length xs - 1 - c.loop-behind.behind) (length xs - c.loop-behind.behind) e.result e.is (omega (arith, low))
    (omega (arith, low)) c.loop-behind.invariant true
    (sym (ap is_name c.as_slice.ensures.value) ∙ sym c.is_name.ensures ∙ c.if-is_name.true))
