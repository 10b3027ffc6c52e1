use Rattle.std.proofs.lemmas.Result.{err_from_is_err_and}
use Rattle.std.proofs.Common.{◌≡◌, ◌*◌, ℕ, arith, ap, rules}
use Rattle.lfs_dirs.specs.Searching.{count_in_nth}
use Rattle.lfs_dirs.proofs.widening.widen_nth.Goals as goal

pub returns : goal.returns
returns g c =
    let first = ap (λ (w : ℕ). w * c.args.index) c.slots_in_block-whole.ensures.value in
    let is : c.min-count.result ≡ count_in_nth c.args.header c.args.index = omega arith in
    record {
      gathers = search rules;
      long = rw (← is) c.in_ok-widen_block.ensures.long;
      done = rw (← is) c.in_ok-widen_block.ensures.done;
      failed = search rules;
    }

pub returns-in_err-widen_block-clause-failed : goal.returns-in_err-widen_block-clause-failed
returns-in_err-widen_block-clause-failed g c =
    let p = err_from_is_err_and c.from_residual.result c.from_residual.ensures.1 in rw (p.1, p.2)
    (λ other. let first = ap (λ (w : ℕ). w * c.args.index) c.slots_in_block-whole.ensures.value in
    let is : c.min-count.result ≡ count_in_nth c.args.header c.args.index = omega arith in
    rw (← is) (c.in_err-widen_block.ensures.failed other))
