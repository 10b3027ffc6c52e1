use Rattle.std.proofs.Common.{◌∙◌, refl, arith}
use Rattle.lfs_model.specs.Reach.{view}
use Rattle.lfs_verify.proofs.Steps.{maps_of}
use Rattle.lfs_verify.proofs.Takes.{reads_first, reads_then, goes_true, goes_false, walked_as}
use Rattle.lfs_verify.proofs.MapSteps.{lists_all, none_fails, root_fails, none_holds, root_reached}
use Rattle.lfs_verify.proofs.Keeping.{keeps_none, keeps_then}
use Rattle.lfs_verify.proofs.map_stage.stage_maps.Goals as goal

pub loop-index-init : goal.loop-index-init
loop-index-init g c = record {
  keeps = keeps_none (g.met.D.SectorDevice.lawful _);
  files = refl;
  empty = λ n le. c.requires.empty n;
  lists = λ d reads n lt. absurd (omega (arith, lt));
  walked = λ d reads w. w;
}

pub returns-then-not-branch-clause-goes : goal.returns-then-not-branch-clause-goes
returns-then-not-branch-clause-goes g c = λ d reads w.
    let here = c.loop-index.invariant in
    let step = c.in_ok-take_map.ensures in
    goes_false _ _ c.if-not-branch.true (step.goes d (reads_then reads here.keeps.looks))
    (here.walked d (reads_first reads step.keeps.looks) w)

pub loop-index-preserved : goal.loop-index-preserved
loop-index-preserved g c =
    let here = c.loop-index.invariant in
    let step = c.in_ok-take_map.ensures in
    record {
      keeps = keeps_then here.keeps step.keeps;
      files = step.files ∙ here.files;
      empty = step.empty c.if-not-branch.false;
      lists = λ d reads. step.lists c.if-not-branch.false d (reads_then reads here.keeps.looks)
          (here.lists d (reads_first reads step.keeps.looks));
      walked = λ d reads w.
          goes_true _ c.if-not-branch.false (step.goes d (reads_then reads here.keeps.looks))
          (here.walked d (reads_first reads step.keeps.looks) w);
    }

pub returns-then-map-ne0-clause-goes : goal.returns-then-map-ne0-clause-goes
returns-then-map-ne0-clause-goes g c = λ d reads w.
    none_fails d _ _ (omega arith) (c.loop-index.invariant.lists d reads)
    c.if-map-ne0.true

pub returns-then-map-eq0-clause-goes : goal.returns-then-map-eq0-clause-goes
returns-then-map-eq0-clause-goes g c = λ d reads w.
    root_fails d _ _ (omega arith) (c.loop-index.invariant.lists d reads)
    c.if-map-eq0.true

pub returns-clause-goes : goal.returns-clause-goes
returns-clause-goes g c = λ d reads w. walked_as (omega arith) (c.loop-index.invariant.walked d reads w)

pub returns-clause-lists : goal.returns-clause-lists
returns-clause-lists g c = λ is d reads.
    lists_all d _ _ (omega arith) (c.loop-index.invariant.lists d reads)

pub returns-clause-holds : goal.returns-clause-holds
returns-clause-holds g c = λ is d reads bounded w.
    let lists = c.loop-index.invariant.lists d reads in
    maps_of (view d _) (walked_as (omega arith) (c.loop-index.invariant.walked d reads w)) bounded
    (none_holds d _ _ (omega arith) lists c.if-map-ne0.false)
    (root_reached d _ _ (omega arith) lists c.if-map-eq0.false)
