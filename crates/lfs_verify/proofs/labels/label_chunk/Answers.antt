use Rattle.std.proofs.Common.{◌≡◌, ◌<◌, ◌+◌, suc, length, ap, subst, ◌∙◌, arith}
use Rattle.lfs_model.specs.Entry.{entry_of}
use Rattle.lfs_model.specs.Summary.{BlockNameValue}
use Rattle.lfs_verify.specs.Labels.{PutsLabels}
use Rattle.lfs_verify.specs.Walk.{step_of}
use Rattle.lfs_verify.proofs.LabelSteps.{puts_none, puts_more}
use Rattle.lfs_verify.proofs.labels.label_chunk.Goals as goal

pub loop-place-init : goal.loop-place-init
loop-place-init c = record { puts = puts_none }

pub loop-place-preserved : goal.loop-place-preserved
loop-place-preserved c =
    let was = c.loop-place.invariant.puts in
    let inside : c.args.first + c.loop-place.place < length c.loop-place.labels =
    omega (arith, c.len-place-end.ensures, was.size, c.requires.inside, c.loop-place-test.true) in
    let step : c.step_of_name.result + 1 ≡ suc (step_of (entry_of c.get.result)) = omega (arith, c.step_of_name.ensures.step) in
    record {
      puts = puts_more inside (step ∙ ap (λ (b : BlockNameValue). suc (step_of (entry_of b))) c.get.ensures) was;
    }

pub returns : goal.returns
returns c =
    let n = c.len-place-end.ensures in
    subst (PutsLabels _ _ _ _) (omega (arith, n)) c.loop-place.invariant.puts
