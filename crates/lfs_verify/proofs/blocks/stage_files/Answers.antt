use Rattle.std.proofs.Common.{◌≡◌, ℕ, sym, subst, arith}
use Rattle.lfs_model.specs.Reach.{view}
use Rattle.lfs_verify.specs.FileStages.{file_step}
use Rattle.lfs_verify.specs.Walk.{Walked}
use Rattle.lfs_verify.proofs.KeptSteps.{there_start, there_next, keeps_here}
use Rattle.lfs_verify.proofs.Takes.{reads_first, reads_then, goes_true, goes_false}
use Rattle.lfs_verify.proofs.Keeping.{keeps_none, keeps_then}
use Rattle.lfs_verify.proofs.blocks.stage_files.Goals as goal

pub loop-file-init : goal.loop-file-init
loop-file-init g c = record {
  keeps = keeps_none (g.met.D.SectorDevice.lawful _);
  few = omega arith;
  place = sym (there_start _);
  walked = λ d k reads lists keeps w. w;
}

pub returns-then-not-branch-clause-goes : goal.returns-then-not-branch-clause-goes
returns-then-not-branch-clause-goes g c = λ d k reads lists keeps w.
    let here = c.loop-file.invariant in
    let step = c.in_ok-take_file.ensures in
    goes_false _ _ c.if-not-branch.true
    (step.goes d k (reads_then reads here.keeps.looks) (lists _ (omega arith))
    (keeps_here d _ _ keeps _ (omega arith) here.place))
    (here.walked d k (reads_first reads step.keeps.looks) lists keeps w)

pub loop-file-preserved : goal.loop-file-preserved
loop-file-preserved g c =
    let here = c.loop-file.invariant in
    let step = c.in_ok-take_file.ensures in
    record {
      keeps = keeps_then here.keeps step.keeps;
      few = omega (arith, here.few, c.inodes_at.ensures.few);
      place = omega (arith, there_next c.args.map.now c.loop-file.file, here.place, c.inodes_at.ensures.number);
      walked = λ d k reads lists keeps w.
          goes_true _ c.if-not-branch.false
          (step.goes d k (reads_then reads here.keeps.looks) (lists _ (omega arith))
          (keeps_here d _ _ keeps _ (omega arith) here.place))
          (here.walked d k (reads_first reads step.keeps.looks) lists keeps w);
    }

pub returns-clause-goes : goal.returns-clause-goes
returns-clause-goes g c = λ d k reads lists keeps w.
    let e : c.loop-file.file ≡ 4096 = omega arith in
    subst (λ (n : ℕ). Walked (view d k) c.loop-file.marks (file_step c.args.stage n)) e
    (c.loop-file.invariant.walked d k reads lists keeps w)
