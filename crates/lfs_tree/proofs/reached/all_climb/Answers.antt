use Rattle.std.proofs.Common.{◌≡◌, arith, ⊎_elim}
use Rattle.std.proofs.lemmas.Bool.{cases_eq}
use Rattle.lfs_tree.specs.Reaching.{root}
use Rattle.lfs_tree.proofs.reached.all_climb.Goals as goal

pub loop-number-init : goal.loop-number-init
loop-number-init c = record {
  marked = c.in_ok-marks.ensures c.args.tables.now.up;
  all = λ n low high on. (let one : 1 ≡ n = omega arith in rw (← one) root);
}

pub loop-number-preserved : goal.loop-number-preserved
loop-number-preserved c =
    let here = c.loop-number.invariant in
    let number = c.loop-number.number in
    let did = rw c.if-not-climb_directory.false at (c.climb_directory.ensures here.marked) in
    record {
      marked = did.0;
      all = λ n low high on. ⊎_elim
          (λ (same : n ≡ number). rw same (did.1 (rw (← same) on)))
          (λ (other : n ≡ number → ⊥). here.all n low (omega arith) on)
          (cases_eq n number);
    }
