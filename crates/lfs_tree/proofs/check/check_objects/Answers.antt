use Rattle.std.proofs.Common.{refl, arith}
use Rattle.lfs_model.specs.TreeOf.{AreTexts}
use Rattle.lfs_tree.specs.Checking.{slots_fail, texts_fail}
use Rattle.lfs_tree.proofs.LinkTexts.{decided_false, decided_true}
use Rattle.lfs_tree.proofs.Seeing.{leads_then, sees_first, sees_then}
use Rattle.lfs_tree.proofs.check.check_objects.Goals as goal

pub returns-in-Ok-false-clause-reason : goal.returns-in-Ok-false-clause-reason
returns-in-Ok-false-clause-reason g c k m sees leads told empty =
    slots_fail refl (rw c.in-Ok-false.field-0-test at (c.in-Ok-false.ensures.holds k m sees leads told empty))

pub returns-in-Err-Device-clause-reason : goal.returns-in-Err-Device-clause-reason
returns-in-Err-Device-clause-reason g c k m sees leads told empty =
    c.in-Err-Device.ensures.failed (cc) k m sees leads told

pub returns-in-Ok-true-stage_texts-clause-done : goal.returns-in-Ok-true-stage_texts-clause-done
returns-in-Ok-true-stage_texts-clause-done g c k m sees leads told empty =
    let looks = c.stage_slots.ensures.keeps.looks in
    let slots = rw c.in-Ok-true.field-0-test at (c.in-Ok-true.ensures.holds k m (sees_first sees c.stage_texts.ensures.keeps.looks) leads
    told empty) in (
      slots.0,
      decided_true (AreTexts m) c.in-Ok-true-stage_texts.field-0-test (c.in-Ok-true-stage_texts.ensures.holds k m (sees_then sees looks)
          (leads_then leads looks) told),
      slots.1,
    )

pub returns-in-Ok-false-stage_texts-clause-reason : goal.returns-in-Ok-false-stage_texts-clause-reason
returns-in-Ok-false-stage_texts-clause-reason g c k m sees leads told empty =
    let looks = c.stage_slots.ensures.keeps.looks in
    let slots = rw c.in-Ok-true.field-0-test at (c.in-Ok-true.ensures.holds k m (sees_first sees c.stage_texts.ensures.keeps.looks) leads
    told empty) in
    texts_fail refl slots.0 (decided_false (AreTexts m) c.in-Ok-false-stage_texts.field-0-test
    (c.in-Ok-false-stage_texts.ensures.holds k m (sees_then sees looks) (leads_then leads looks) told))

pub returns-in-Err-clause-reason : goal.returns-in-Err-clause-reason
returns-in-Err-clause-reason g c k m sees leads told empty =
    let looks = c.stage_slots.ensures.keeps.looks in
    omega (arith, c.in-Err.ensures.failed k m (sees_then sees looks) (leads_then leads looks) told)
