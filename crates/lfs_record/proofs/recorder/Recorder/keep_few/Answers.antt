use Rattle.std.proofs.Common.{Bool, Ok, arith, subst}
use Rattle.std.proofs.lemmas.Result.{err_from_is_err_and}
use Rattle.lfs_fs.specs.Seen.{seen}
use Rattle.lfs_record.specs.Recording.{DropsOldest}
use Rattle.lfs_record.proofs.Recorded.{few_all, few_fails, few_gone, few_now, none_went, one_went}
use Rattle.lfs_record.proofs.recorder.Recorder.keep_few.Goals as goal

pub returns-then-self-eq0 : goal.returns-then-self-eq0
returns-then-self-eq0 g c = few_all g.D.SectorDevice.state _ c.args.self.now tt c.if-self-eq0.true

pub loop-round-init : goal.loop-round-init
loop-round-init g c = (let some = c.if-self-eq0.false in omega (arith, some), none_went g.D.SectorDevice.state _ c.args.self.now)

pub returns-in_err-drop_oldest : goal.returns-in_err-drop_oldest
returns-in_err-drop_oldest g c =
    let p = err_from_is_err_and c.from_residual.result c.from_residual.ensures.1 in rw (p.1, p.2)
    (few_fails g.D.SectorDevice.state _ _ _ c.args.self.now c.in_err-drop_oldest.field-0.0 c.loop-round.invariant.1.so_far
    c.in_err-drop_oldest.ensures)

pub returns-then-not-branch : goal.returns-then-not-branch
returns-then-not-branch g c =
    few_now g.D.SectorDevice.state _ _ _ c.args.self.now tt c.loop-round.invariant.1.so_far
    (subst (λ (b : Bool). DropsOldest g.D.SectorDevice.state (seen c.loop-round.fs) (seen c.drop_oldest.new.fs) c.args.self.now (Ok b))
    c.if-not-branch.true c.in_ok-drop_oldest.ensures)

pub loop-round-preserved : goal.loop-round-preserved
loop-round-preserved g c = (
  c.loop-round.invariant.0,
  one_went g.D.SectorDevice.state _ _ _ c.args.self.now c.loop-round._round c.loop-round.invariant.0 c.loop-round.invariant.1
      (subst (λ (b : Bool). DropsOldest g.D.SectorDevice.state (seen c.loop-round.fs) (seen c.drop_oldest.new.fs) c.args.self.now (Ok b))
      c.if-not-branch.false c.in_ok-drop_oldest.ensures),
)

pub returns : goal.returns
returns g c =
    few_gone g.D.SectorDevice.state _ _ c.args.self.now tt c.loop-round._round (let all = c.loop-round-test.false in omega (arith, all))
    c.loop-round.invariant.1
