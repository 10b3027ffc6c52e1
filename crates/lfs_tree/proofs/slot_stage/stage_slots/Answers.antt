use Rattle.std.specs.Prelude.{Err}
use Rattle.lfs_tree.proofs.Exits.{passed_on}
use Rattle.std.proofs.Common.{ap, ◌≡◌, ◌∙◌, arith, refl}
use Rattle.lfs_verify.proofs.Takes.{looks_none, looks_then}
use Rattle.lfs_tree.proofs.Named.{base_at, named_first, named_more, noted_begin}
use Rattle.lfs_tree.proofs.ObjectNames.{good_if_stage, held_headers, no_names, nobody, stage_if_good}
use Rattle.lfs_tree.proofs.Seeing.{leads_then, sees_first, sees_then}
use Rattle.lfs_tree.proofs.slot_stage.stage_slots.Goals as goal

pub loop-number-init : goal.loop-number-init
loop-number-init g c = record {
  looks = looks_none (g.met.D.SectorDevice.lawful c.args.device.now);
  no_failure = refl;
  named = λ k m sees leads told empty.
      let are = held_headers sees.holds in
      let none = nobody m are in
      named_first m c.args.headers.now empty (λ h at dir. (cc))
      (no_names m are 0 none);
}

pub loop-number-preserved : goal.loop-number-preserved
loop-number-preserved g c =
    let here = c.loop-number.invariant in
    let headers = c.args.headers.now in
    record {
      looks = looks_then here.looks c.in_ok-take_object.ensures.keeps.looks;
      no_failure = c.in_ok-take_object.ensures.keeps.no_failure ∙ here.no_failure;
      named = λ k m sees leads told empty.
          let was = here.named k m (sees_first sees c.in_ok-take_object.ensures.keeps.looks) leads told empty in
          let taken = c.in_ok-take_object.ensures.takes k m (sees_then sees here.looks)
          (leads_then leads here.looks) told (base_at m headers c.loop-number.tables c.loop-number.number) (noted_begin m headers was) in
          let both = rw c.if-not-branch.false at taken in
          named_more m headers was both.0 both.1;
    }

pub returns-then-not-branch-clause-holds : goal.returns-then-not-branch-clause-holds
returns-then-not-branch-clause-holds g c k m sees leads told empty =
    let here = c.loop-number.invariant in
    let number = c.loop-number.number in
    let headers = c.args.headers.now in
    let taken = c.in_ok-take_object.ensures.takes k m (sees_then sees here.looks)
    (leads_then leads here.looks) told (base_at m headers c.loop-number.tables number) (noted_begin m headers
    (here.named k m (sees_first sees c.in_ok-take_object.ensures.keeps.looks) leads told empty)) in
    λ stage. (rw c.if-not-branch.true at taken) (good_if_stage m (held_headers sees.holds) headers told stage number)

pub returns-in_err-take_object-clause-failed : goal.returns-in_err-take_object-clause-failed
returns-in_err-take_object-clause-failed g c same k m sees leads told =
    let looks = c.loop-number.invariant.looks in
    let rose = c.in_err-take_object.ensures.failed (ap Err (passed_on c.in_err-take_object.field-0.0 _ c.from_residual.ensures same)) k m
    (sees_then sees looks) (leads_then leads looks) told in
    omega arith

pub returns-clause-holds : goal.returns-clause-holds
returns-clause-holds g c k m sees leads told empty =
    let last : c.loop-number.number ≡ 4096 = omega arith in
    let named = rw last at (c.loop-number.invariant.named k m sees leads told empty) in
    (stage_if_good m (held_headers sees.holds) c.args.headers.now told named.good, named)
