use Rattle.std.proofs.Common.{rules, arith}
use Rattle.lfs_memory.proofs.PointerRuns.{kept_found, kept_some, no_way}
use Rattle.lfs_memory.proofs.pointers.find_by_run.Goals as goal

pub returns-clause-finds : goal.returns-clause-finds
returns-clause-finds g c = record {
  answer = kept_found _ _ _ _ c.kept_pointer.result
      c.keep_run.ensures.looks.looks c.keep_run.ensures.kept (c.in_ok-keep_run.ensures.from c.if-not-branch.false) c.kept_pointer.ensures;
  some = λ some. kept_some _ _ _ _ _ c.keep_run.ensures.kept (c.in_ok-keep_run.ensures.from c.if-not-branch.false);
  looks = search rules;
}

pub returns-then-not-branch-clause-finds : goal.returns-then-not-branch-clause-finds
returns-then-not-branch-clause-finds g c = record {
  answer = no_way (g.D.SectorDevice.state c.args.device.now) (g.D.SectorDevice.state c.keep_run.new.device) c.args.memory.now
      c.args.number c.args.index (c.in_ok-keep_run.ensures.none (search rules));
  some = λ some. omega arith;
  looks = search rules;
}
