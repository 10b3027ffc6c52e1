use Rattle.lfs_path.proofs.Passes.{above_passes, here_passes, name_passes}
use Rattle.lfs_path.proofs.passing.pass.Goals as goal

pub returns-in-Here-clause-answer : goal.returns-in-Here-clause-answer
returns-in-Here-clause-answer g c =
    here_passes (g.F.Files.state c.args.files.now) (g.F.Files.state c.step.new.files) c.args.piece.now
    c.args.chain.now c.directory.ensures.value
    (rw c.in-Here.is at c.in_ok-seen.ensures.answer)

pub returns-in-Above-clause-answer : goal.returns-in-Above-clause-answer
returns-in-Above-clause-answer g c =
    above_passes (g.F.Files.state c.args.files.now) (g.F.Files.state c.step.new.files) c.args.piece.now
    c.args.chain.now c.directory.ensures.value c.ascend.ensures (rw c.in-Above.is at c.in_ok-seen.ensures.answer)

pub returns-in-Ok-clause-answer : goal.returns-in-Ok-clause-answer
returns-in-Ok-clause-answer g c =
    name_passes (g.F.Files.state c.args.files.now) (g.F.Files.state c.step.new.files) c.args.piece.now
    c.args.chain.now c.directory.ensures.value c.in-Directory.number c.in-Ok.ensures (rw c.in-Directory.is at c.in_ok-seen.ensures.answer)
