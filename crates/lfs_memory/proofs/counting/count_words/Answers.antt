use Rattle.std.proofs.Common.{rules, arith}
use Rattle.lfs_memory.proofs.Counted.{words_none, words_more, words_over, words_end}
use Rattle.lfs_memory.proofs.counting.count_words.Goals as goal

pub loop-i-init : goal.loop-i-init
loop-i-init c = record { counts = words_none _ _ _ }

pub loop-i-preserved : goal.loop-i-preserved
loop-i-preserved c = record {
  counts = words_more _ _ c.loop-i.i _ c.word.ensures
      c.loop-i.invariant.counts (c.if-not-add.ensures.done (search rules));
}

pub returns-clause-done : goal.returns-clause-done
returns-clause-done c =
    words_end _ _ c.loop-i.i _ _ c.loop-i.counts (omega arith) c.loop-i.invariant.counts

pub returns-then-not-add-clause-failed : goal.returns-then-not-add-clause-failed
returns-then-not-add-clause-failed c =
    words_over _ _ c.loop-i.i _ _ c.loop-i-test.true c.word.ensures
    c.loop-i.invariant.counts (c.if-not-add.ensures.over (search rules))
