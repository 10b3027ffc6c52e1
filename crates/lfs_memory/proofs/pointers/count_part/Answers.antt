use Rattle.std.proofs.Common.{rules}
use Rattle.lfs_memory.proofs.PointerRuns.{kept_count, no_way_count}
use Rattle.lfs_memory.proofs.pointers.count_part.Goals as goal

pub returns-clause-answer : goal.returns-clause-answer
returns-clause-answer g c =
    kept_count _ _ _ _ c.count_kept.result.1 c.count_kept.result.0
    c.keep_run.ensures.looks.looks c.keep_run.ensures.kept (c.in_ok-keep_run.ensures.from c.if-not-branch.false)
    c.count_kept.ensures.further.0
    c.count_kept.ensures.value

pub returns-then-not-branch-clause-answer : goal.returns-then-not-branch-clause-answer
returns-then-not-branch-clause-answer g c =
    no_way_count (g.D.SectorDevice.state c.args.device.now) (g.D.SectorDevice.state c.keep_run.new.device) c.args.memory.now c.args.number
    c.args.from c.args.to (c.in_ok-keep_run.ensures.none (search rules))
