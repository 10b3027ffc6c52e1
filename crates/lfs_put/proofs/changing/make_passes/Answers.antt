use Rattle.std.proofs.lemmas.Result.{err_from_is_err_and}
use Rattle.std.proofs.Common.{rules, ℕ, inl, inr, refl, sym, subst, add-one, arith}
use Rattle.lfs_fs.specs.Seen.{seen}
use Rattle.lfs_put.specs.Changing.{PassesOn}
use Rattle.lfs_put.proofs.changing.make_passes.Goals as goal

pub loop-init : goal.loop-init
loop-init g c = refl

pub loop-preserved : goal.loop-preserved
loop-preserved g c =
    subst (λ (n : ℕ). PassesOn g.D.SectorDevice.state n (seen c.args.fs.now) (seen c.clean_once.new.self))
    (sym (add-one c.loop.counter))
    (seen c.loop.fs, c.loop.invariant, c.in_ok-clean_once.ensures.serves, c.in_ok-clean_once.ensures.once)

pub returns-then-not-is_cleaning_due : goal.returns-then-not-is_cleaning_due
returns-then-not-is_cleaning_due g c =
    let lt = c.loop-test.true in
    record {
      count = c.loop.counter;
      mid = seen c.loop.fs;
      few = omega (arith, lt);
      passes = c.loop.invariant;
      ends = (refl, inr (c.is_cleaning_due.ensures.quarter (search rules)));
    }

pub returns-in_err-clean_once : goal.returns-in_err-clean_once
returns-in_err-clean_once g c =
    let p = err_from_is_err_and c.from_residual.result c.from_residual.ensures.1 in rw (p.1, p.2)
    (let lt = c.loop-test.true in
    record {
      count = c.loop.counter;
      mid = seen c.loop.fs;
      few = omega (arith, lt);
      passes = c.loop.invariant;
      ends = (lt, c.in_err-clean_once.ensures.serves);
    })

pub returns : goal.returns
returns g c =
    let low = c.loop-test.false in
    let high = c.loop.auto.counter-end in
    record {
      count = c.loop.counter;
      mid = seen c.loop.fs;
      few = omega (arith, high);
      passes = c.loop.invariant;
      ends = (refl, inl (omega (arith, low, high)));
    }
