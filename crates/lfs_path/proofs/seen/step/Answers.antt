use Rattle.lfs_path.proofs.Sights.{object_failed, seen_directory, seen_file, seen_link}
use Rattle.lfs_path.proofs.seen.step.Goals as goal

pub returns-in-Err-clause-refused : goal.returns-in-Err-clause-refused
returns-in-Err-clause-refused g c =
    object_failed c.args.directory.value c.in_ok-number.number c.args.piece.now
    c.entry_in.ensures.walks.reads c.header_of.ensures.reads c.in_ok-number.ensures.answer c.in-Err.ensures.failed

pub returns-in-File-clause-answer : goal.returns-in-File-clause-answer
returns-in-File-clause-answer g c =
    seen_file c.args.directory.value c.in_ok-number.number c.args.piece.now
    c.entry_in.ensures.walks.reads c.header_of.ensures.reads c.in_ok-number.ensures.answer c.in-Ok.header c.in-Ok.ensures.answer
    c.in-File.is

pub returns-in-Directory-clause-answer : goal.returns-in-Directory-clause-answer
returns-in-Directory-clause-answer g c =
    seen_directory c.args.directory.value c.in_ok-number.number c.args.piece.now
    c.entry_in.ensures.walks.reads c.header_of.ensures.reads c.in_ok-number.ensures.answer c.in-Ok.header c.in-Ok.ensures.answer
    c.in-Directory.is

pub returns-in-Link-clause-answer : goal.returns-in-Link-clause-answer
returns-in-Link-clause-answer g c =
    seen_link c.args.directory.value c.in_ok-number.number c.args.piece.now
    c.entry_in.ensures.walks.reads c.header_of.ensures.reads c.in_ok-number.ensures.answer c.in-Ok.header c.in-Ok.ensures.answer
    c.in-Link.is
