use Rattle.std.proofs.Common.{arith}
use Rattle.lfs_path.proofs.LinkTexts.{read_ends, read_goes_on}
use Rattle.lfs_path.proofs.link.read_text.Goals as goal

pub loop-index-preserved : goal.loop-index-preserved
loop-index-preserved g c =
    read_goes_on c.args.link.number.value c.args.link.header.size (omega arith) (omega arith) c.loop-index.invariant
    (g.met.F.Files.lawful c.args.files.now) c.read_block.ensures.walks.reads c.in_ok-read_block.ensures.done

pub returns-clause-answer : goal.returns-clause-answer
returns-clause-answer g c =
    read_ends c.args.link (omega arith) c.loop-index.invariant
