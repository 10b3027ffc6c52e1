use Rattle.std.proofs.lemmas.Result.{IfOk-weaker}
use Rattle.lfs_entries.proofs.ObjectReads.{shows_file, shows_link}
use Rattle.lfs_entries.proofs.reading.read_head.Goals as goal

pub returns-in-File-clause-answer : goal.returns-in-File-clause-answer
returns-in-File-clause-answer g c =
    IfOk-weaker c.read_sized.result _ _ (λ bytes. shows_file (g.F.Files.state c.args.files.now) (g.F.Files.state c.read_sized.new.files)
    c.args.number.value c.args.header bytes.items c.in-File.is) c.read_sized.ensures.answer

pub returns-in-Link-clause-answer : goal.returns-in-Link-clause-answer
returns-in-Link-clause-answer g c =
    IfOk-weaker c.read_sized-in-Link.result _ _
    (λ bytes. shows_link (g.F.Files.state c.args.files.now) (g.F.Files.state c.read_sized-in-Link.new.files)
    c.args.number.value c.args.header bytes.items c.in-Link.is) c.read_sized-in-Link.ensures.answer
