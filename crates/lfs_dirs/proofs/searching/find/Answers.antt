use Rattle.std.proofs.Common.{Some, None, arith}
use Rattle.lfs_dirs.proofs.Searches.{finds, search_goes_on, search_hits, search_ends, search_fails}
use Rattle.lfs_dirs.proofs.Widths.{blocks_past}
use Rattle.lfs_dirs.proofs.searching.find.Goals as goal

pub returns-in-Ok-Some-clause-slot : goal.returns-in-Ok-Some-clause-slot
returns-in-Ok-Some-clause-slot g c =
    search_hits c.args.directory.value c.args.header c.args.name.now (g.F.Files.state c.search_nth.new.files)
    c.loop-index.invariant c.in-Ok-Some.found c.search_nth.ensures.searches.reads
    (rw c.in-Ok-Some.field-0-is at c.in-Ok-Some.ensures.answer)

pub returns-in-Err-clause-failed : goal.returns-in-Err-clause-failed
returns-in-Err-clause-failed g c =
    search_fails c.args.directory.value c.args.header c.args.name.now (g.F.Files.state c.search_nth.new.files)
    c.loop-index.invariant c.in-Err.ensures.searches.failed

pub loop-index-preserved : goal.loop-index-preserved
loop-index-preserved g c =
    search_goes_on c.args.directory.value c.args.header c.args.name.now (g.F.Files.state c.search_nth.new.files)
    c.loop-index.invariant (g.met.F.Files.lawful c.args.files.now) c.search_nth.ensures.searches.reads
    (rw c.in-Ok-None.field-0-is at c.in-Ok-None.ensures.answer)

pub returns-clause-slot : goal.returns-clause-slot
returns-clause-slot g c =
    search_ends c.args.directory.value c.args.header c.args.name.now
    (let past = blocks_past c.args.header.form c.loop-index.index c.slots_of-slots.result
    c.slots_in_block-whole.ensures.value (omega arith) in
    omega arith)
    c.loop-index.invariant

pub returns-in-Ok-Some-clause-answer : goal.returns-in-Ok-Some-clause-answer
returns-in-Ok-Some-clause-answer g c =
    finds (g.F.Files.state c.args.files.now) (g.F.Files.state c.search_nth.new.files) c.args.directory.value c.args.header c.args.name.now
    (Some c.in-Ok-Some.found) (returns-in-Ok-Some-clause-slot g c)

pub returns-clause-answer : goal.returns-clause-answer
returns-clause-answer g c =
    finds (g.F.Files.state c.args.files.now) (g.F.Files.state c.loop-index.files) c.args.directory.value c.args.header c.args.name.now None
    (returns-clause-slot g c)
