use Rattle.std.proofs.Common.{rules, ap, not, arith}
use Rattle.lfs_memory.proofs.CutFiles.{uncovered_past}
use Rattle.lfs_memory.proofs.cutting.drop_counted.Goals as goal

pub returns-then-not-are_covered-clause-looks : goal.returns-then-not-are_covered-clause-looks
returns-then-not-are_covered-clause-looks g c = record {
  failed = uncovered_past _ _ _ _
      (omega arith) (ap not c.is_hidden-lives.ensures) c.count_past.ensures.looks.looks c.in_ok-count_past.ensures.counted
      (c.if-not-are_covered.ensures.no (search rules));
  no_failure = search rules;
  looks = search rules;
}
