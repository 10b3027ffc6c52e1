use Rattle.std.proofs.Common.{◌≡◌, ◌∙◌, sym, below_more, subst, arith}
use Rattle.lfs_verify.specs.Kept.{KeepsBelow}
use Rattle.lfs_verify.proofs.Takes.{reads_first, reads_then, walked_as, goes_true, goes_false}
use Rattle.lfs_verify.proofs.InodeSteps.{in_marks, inode_goes}
use Rattle.lfs_verify.proofs.KeptSteps.{there_start, there_past, count_next, keeps_next}
use Rattle.lfs_verify.proofs.Keeping.{keeps_none, keeps_then}
use Rattle.lfs_verify.proofs.inode_stage.all_inodes.Goals as goal

pub loop-file-init : goal.loop-file-init
loop-file-init g c = record {
  keeps = keeps_none (g.met.D.SectorDevice.lawful _);
  at = λ i lt. absurd (omega (arith, lt));
  room = c.requires.room;
  count = sym c.args.inodes.now.ok.0 ∙ c.requires.none ∙ sym (there_start _);
  kept = λ d reads i lt. absurd (omega (arith, lt));
  walked = λ d k reads same lists w. w;
}

pub returns-then-not-branch-clause-goes : goal.returns-then-not-branch-clause-goes
returns-then-not-branch-clause-goes g c = λ d k reads same lists w.
    let here = c.loop-file.invariant in
    let step = c.in_ok-take_inode.ensures in
    goes_false _ _ c.if-not-branch.true (inode_goes d k _ (omega arith) _ _ (lists _ (omega arith)) _ same
    (step.takes d (reads_then reads here.keeps.looks))) (here.walked d k (reads_first reads step.keeps.looks) same lists w)

pub keep_inode-requires : goal.keep_inode-requires
keep_inode-requires g c = record {
  room = λ some.
      let here = c.loop-file.invariant in
      let past = there_past c.args.map.now c.loop-file.file 4096 (omega arith) some in
      omega (arith, here.room, here.count, past, c.loop-file.inodes.ok.0);
}

pub loop-file-preserved : goal.loop-file-preserved
loop-file-preserved g c =
    let here = c.loop-file.invariant in
    let step = c.in_ok-take_inode.ensures in
    record {
      keeps = keeps_then here.keeps step.keeps;
      at = below_more _ _ here.at (in_marks _ _ _ here.keeps.len (step.at c.if-not-branch.false));
      room = omega (arith, here.room, c.keep_inode.ensures.room);
      count = count_next _ _ c.loop-file.inodes.items _ here.count _
          c.keep_inode.ensures.kept c.keep_inode.ensures.none;
      kept = λ d reads.
          keeps_next _ _ c.loop-file.inodes.items _ here.count _
          c.keep_inode.ensures.kept c.keep_inode.ensures.none
          d (λ some. step.read c.if-not-branch.false some d (reads_then reads here.keeps.looks))
          (here.kept d (reads_first reads step.keeps.looks));
      walked = λ d k reads same lists w.
          goes_true _ c.if-not-branch.false (inode_goes d k _ (omega arith) _ _ (lists _ (omega arith)) _
          same (step.takes d (reads_then reads here.keeps.looks))) (here.walked d k (reads_first reads step.keeps.looks) same lists w);
    }

pub returns-clause-goes : goal.returns-clause-goes
returns-clause-goes g c = λ d k reads same lists w. walked_as (omega arith) (c.loop-file.invariant.walked d k reads same lists w)

pub returns-clause-kept : goal.returns-clause-kept
returns-clause-kept g c = λ is d reads.
    let e : c.loop-file.file ≡ 4096 = omega arith in
    subst (KeepsBelow d _ c.loop-file.inodes.items) e (c.loop-file.invariant.kept d reads)
