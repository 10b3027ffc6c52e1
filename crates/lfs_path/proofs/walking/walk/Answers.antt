use Rattle.std.proofs.Common.{arith}
use Rattle.lfs_path.proofs.PathWalks.{walk_goes_on, walk_loops}
use Rattle.lfs_path.proofs.walking.walk.Goals as goal

pub returns-then-links-eq-MOST_FOLLOWED-clause-refused : goal.returns-then-links-eq-MOST_FOLLOWED-clause-refused
returns-then-links-eq-MOST_FOLLOWED-clause-refused g c =
    walk_loops c.args.slash_end c.args.follow c.args.path.now c.walk_text.new.chain c.loop-chain.invariant c.walk_text.ensures.walks.reads
    c.in-Ok-Followed.link c.in-Ok-Followed.rest c.as_slice.ensures.value (rw c.in-Ok-Followed.field-0-is at c.in-Ok-Followed.ensures.answer)
    (omega arith)

pub loop-chain-preserved : goal.loop-chain-preserved
loop-chain-preserved g c =
    walk_goes_on c.args.slash_end c.args.follow c.args.path.now c.walk_text.new.chain c.loop-chain.invariant c.walk_text.ensures.walks.reads
    c.in-Ok-Followed.link c.in-Ok-Followed.rest c.as_slice.ensures.value (rw c.in-Ok-Followed.field-0-is at c.in-Ok-Followed.ensures.answer)
    c.follow_link.ensures.walks.reads (g.met.F.Files.lawful c.args.files.now)
    (omega arith) c.in_ok-text.ensures.answer
