use Rattle.std.proofs.Common.{rules, ◌≡◌, ◌<◌, ◌≤◌, ◌+◌, ◌/◌, true, false, ◌∙◌, arith}
use Rattle.lfs_cleaner.proofs.CleanEnds.{fault_then, halts_at_once, halts_then, halts_weaker}
use Rattle.lfs_cleaner.proofs.CleanEnds.{keeps_still, keeps_then, keeps_weaker, read_fault}
use Rattle.lfs_cleaner.proofs.CleanBounds.{may_pass, nothing_between, passes_more, told_within, told_more, passes_none, passes_suffice}
use Rattle.lfs_cleaner.proofs.making.pass_until_quarter.Goals as goal

pub loop-init : goal.loop-init
loop-init g c = passes_none (g.met.D.SectorDevice.lawful c.args.log.now.device) c.requires.running

pub returns-in-Err-clause-full : goal.returns-in-Err-clause-full
returns-in-Err-clause-full g c is =
    let done = c.loop.invariant.repeats.keeps in
    let lt = c.loop-test.true in
    let most = c.most_passes-most.ensures in
    let size = c.segments.ensures in
    let le : c.loop.counter < c.args.log.now.segments / 8 = omega (arith, lt, most, size) in
    let refuses = c.in-Err.ensures.full (search rules) in
    let still = keeps_still _ done.running refuses.still in record {
      keeps = keeps_weaker _ (keeps_then _ _ done still) (omega (arith, le));
      never = λ k m0 m keeps may.
          (let next =
          may_pass c.requires.nothing c.loop.invariant (c.if-has_quarter.ensures.no (search rules))
          (refuses.still.carries.kept_before keeps) may le in
          refuses.unfit next.0 next.1 m keeps next.2);
    }

pub returns-in-Err-clause-device : goal.returns-in-Err-clause-device
returns-in-Err-clause-device g c is =
    let done = c.loop.invariant.repeats.keeps in
    let lt = c.loop-test.true in
    let most = c.most_passes-most.ensures in
    let size = c.segments.ensures in
    let le : c.loop.counter + 0 ≤ c.args.log.now.segments / 8 = omega (arith, lt, most, size) in
    let fails = c.in-Err.ensures.device (search rules) in
    let still = keeps_still _ done.running fails.still in record {
      keeps = keeps_weaker _ (keeps_then _ _ done still) le;
      fault = fault_then _ c.pass.new.log done
          fails.still.carries (read_fault _ c.pass.new.log fails.fault);
    }

pub returns-in-Err-clause-halted : goal.returns-in-Err-clause-halted
returns-in-Err-clause-halted g c is =
    let done = c.loop.invariant.repeats.keeps in
    let lt = c.loop-test.true in
    let most = c.most_passes-most.ensures in
    let size = c.segments.ensures in
    let running : c.loop.log.halted ≡ false = done.running in
    let halts = c.in-Err.ensures.halted (search rules) (λ (is : c.loop.log.halted ≡ true). absurd (cc)) in
    halts_weaker _ (halts_then _ _ done (halts_at_once _ _ _ halts)) (omega (arith, lt, most, size))

pub loop-preserved : goal.loop-preserved
loop-preserved g c = passes_more c.loop.invariant (record {
  nothing = nothing_between c.requires.nothing c.loop.invariant;
  few = c.if-has_quarter.ensures.no (search rules);
  passes = c.in-Ok.ensures.done;
}) c.in-Ok.ensures.totals c.pass.ensures.told

pub returns-clause-full : goal.returns-clause-full
returns-clause-full g c is =
    let low = c.loop-test.false in
    let high = c.loop.auto.counter-end in
    let most = c.most_passes-most.ensures in
    let size = c.segments.ensures in
    let all : c.loop.counter ≡ c.args.log.now.segments / 8 = omega (arith, low, high, most, size) in record {
      keeps = keeps_weaker _ c.loop.invariant.repeats.keeps (omega (arith, all));
      never = λ k m0 m keeps may.
          passes_suffice c.requires.nothing
          c.loop.invariant (c.if-has_quarter-2.ensures.no (search rules)) keeps may
          (g.met.D.SectorDevice.lawful c.args.log.now.device) all;
    }

pub returns-in-Err-clause-totals : goal.returns-in-Err-clause-totals
returns-in-Err-clause-totals g c = c.pass.ensures.totals ∙ c.loop.invariant.repeats.keeps.totals

pub returns-then-has_quarter-clause-totals : goal.returns-then-has_quarter-clause-totals
returns-then-has_quarter-clause-totals g c = c.loop.invariant.repeats.keeps.totals

pub returns-clause-totals : goal.returns-clause-totals
returns-clause-totals g c = c.loop.invariant.repeats.keeps.totals

pub returns-in-Err-clause-told : goal.returns-in-Err-clause-told
returns-in-Err-clause-told g c =
    let lt = c.loop-test.true in
    let most = c.most_passes-most.ensures in
    let size = c.segments.ensures in
    told_more c.pass.new.log c.loop.invariant c.pass.ensures.told _ (omega (arith, lt, most, size))

pub returns-then-has_quarter-clause-told : goal.returns-then-has_quarter-clause-told
returns-then-has_quarter-clause-told g c =
    let lt = c.loop-test.true in
    let most = c.most_passes-most.ensures in
    let size = c.segments.ensures in
    told_within c.loop.invariant _ (omega (arith, lt, most, size))

pub returns-then-has_quarter-2-clause-told : goal.returns-then-has_quarter-2-clause-told
returns-then-has_quarter-2-clause-told g c =
    let high = c.loop.auto.counter-end in
    let most = c.most_passes-most.ensures in
    let size = c.segments.ensures in
    told_within c.loop.invariant _ (omega (arith, high, most, size))

pub returns-clause-told : goal.returns-clause-told
returns-clause-told g c =
    let high = c.loop.auto.counter-end in
    let most = c.most_passes-most.ensures in
    let size = c.segments.ensures in
    told_within c.loop.invariant _ (omega (arith, high, most, size))
