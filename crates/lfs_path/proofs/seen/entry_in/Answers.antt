use Rattle.std.proofs.Common.{arith}
use Rattle.lfs_path.proofs.Sights.{find_failed, found, found_none, header_failed, long_refused}
use Rattle.lfs_path.proofs.seen.entry_in.Goals as goal

pub returns-then-name-longest-clause-refused : goal.returns-then-name-longest-clause-refused
returns-then-name-longest-clause-refused g c =
    long_refused (g.F.Files.state c.args.files.now) (g.F.Files.state c.header_of.new.files) c.args.directory.value c.in-Ok.header
    c.in-Ok.ensures.answer c.args.name.now
    (omega arith)

pub returns-in-Err-clause-refused : goal.returns-in-Err-clause-refused
returns-in-Err-clause-refused g c =
    header_failed (g.F.Files.state c.args.files.now) (g.F.Files.state c.header_of.new.files) c.args.directory.value c.in-Err.ensures.failed

pub returns-in-Ok-Some-clause-answer : goal.returns-in-Ok-Some-clause-answer
returns-in-Ok-Some-clause-answer g c =
    found c.args.directory.value c.in-Ok.header
    c.header_of.ensures.reads c.find.ensures.reads c.in-Ok.ensures.answer c.args.name.now c.in-Ok-Some.found c.requires.dots
    (omega arith)
    (rw c.in-Ok-Some.field-0-is at c.in-Ok-Some.ensures.answer)

pub returns-in-Ok-None-clause-refused : goal.returns-in-Ok-None-clause-refused
returns-in-Ok-None-clause-refused g c =
    found_none c.args.directory.value c.in-Ok.header
    c.header_of.ensures.reads c.find.ensures.reads c.in-Ok.ensures.answer c.args.name.now c.requires.dots
    (omega arith)
    (rw c.in-Ok-None.field-0-is at c.in-Ok-None.ensures.answer)

pub returns-in-Err-find-clause-refused : goal.returns-in-Err-find-clause-refused
returns-in-Err-find-clause-refused g c =
    find_failed c.args.directory.value c.in-Ok.header
    c.header_of.ensures.reads c.find.ensures.reads c.in-Ok.ensures.answer c.in-Err-find.ensures.failed
