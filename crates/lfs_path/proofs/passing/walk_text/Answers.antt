use Rattle.lfs_path.proofs.TextWalks.{ends, stops_err, stops_ok}
use Rattle.lfs_path.proofs.passing.walk_text.Goals as goal

pub returns-in-Some-met-clause-answer : goal.returns-in-Some-met-clause-answer
returns-in-Some-met-clause-answer g c =
    stops_ok c.args.slash_end c.args.follow c.in-Some.ensures.piece c.loop-piece.invariant
    c.pass.ensures.walks.reads c.pass.new.chain c.in-Some-met.met
    (rw c.in-Some-met.is at c.in_ok-met.ensures.answer) c.stop_at.result c.stop_at.ensures

pub returns-in-Some-met-clause-refused : goal.returns-in-Some-met-clause-refused
returns-in-Some-met-clause-refused g c =
    stops_err c.args.slash_end c.args.follow c.in-Some.ensures.piece c.loop-piece.invariant
    c.pass.ensures.walks.reads c.pass.new.chain c.in-Some-met.met
    (rw c.in-Some-met.is at c.in_ok-met.ensures.answer) c.stop_at.result c.stop_at.ensures

pub returns-clause-answer : goal.returns-clause-answer
returns-clause-answer g c =
    ends c.args.slash_end c.args.follow c.in_default.ensures.none c.loop-piece.invariant
