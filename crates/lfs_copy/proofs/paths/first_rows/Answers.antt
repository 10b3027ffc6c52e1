use Rattle.std.proofs.Common.{◌+◌, ℕ, List, rules, ap, subst, sym}
use Rattle.lfs_copy.proofs.Firsts.{Finding, finding_beyond, finding_earlier, finding_new, finding_set, found_all}
use Rattle.lfs_copy.proofs.paths.first_rows.Goals as goal
use Rattle.lfs_copy.proofs.paths.first_rows.Goals.{then-number-lt-NUMBERS+then-index, else-number-lt-NUMBERS}
use Rattle.lfs_copy.proofs.paths.first_rows.Goals.{else-number-lt-NUMBERS-via-then-number-lt-NUMBERS+else-index}
use Rattle.lfs_copy.proofs.paths.first_rows.Goals.{else-number-lt-NUMBERS-via-else-number-lt-NUMBERS}

pub loop-index-init : goal.loop-index-init
loop-index-init c = finding_new _ _ (c.in_ok-firsts.ensures.items_if_clones_equal (search rules))

pub loop-index-preserved : goal.loop-index-preserved
loop-index-preserved c = elim c.if-number-lt-NUMBERS.branch [
  | then-number-lt-NUMBERS+then-index w ↦
      subst (λ (l : List ℕ). Finding c.args.rows.now (c.loop-index.index + 1) l) (sym (ap (λ v. v.items) w.firsts-is))
      (finding_set c.args.rows.now c.loop-index.index c.index-rows-index.result c.loop-index.firsts.items w.index.result.now
      c.loop-index.invariant c.loop-index-test.true w.if-number-lt-NUMBERS.true w.index.ensures w.if-index.true)
  | else-number-lt-NUMBERS w ↦
      subst (λ (l : List ℕ). Finding c.args.rows.now (c.loop-index.index + 1) l) (sym (ap (λ v. v.items) w.firsts-is))
      (elim w.else-number-lt-NUMBERS.branch [
        | else-number-lt-NUMBERS-via-then-number-lt-NUMBERS+else-index v ↦
            finding_earlier c.args.rows.now c.loop-index.index c.index-rows-index.result c.loop-index.firsts.items v.index.result.now
            c.loop-index.invariant c.loop-index-test.true v.index.ensures v.if-index.false
        | else-number-lt-NUMBERS-via-else-number-lt-NUMBERS v ↦
            finding_beyond c.args.rows.now c.loop-index.index c.index-rows-index.result c.loop-index.firsts.items
            c.loop-index.invariant c.loop-index-test.true v.if-number-lt-NUMBERS.false
      ])
]

pub returns : goal.returns
returns c = found_all _ _ _ c.loop-index.invariant (search rules)
