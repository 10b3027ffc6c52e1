use Rattle.std.proofs.Common.{◌≡◌, ◌∙◌, ℕ, sym, subst, arith}
use Rattle.lfs_model.specs.Members.{IsIn}
use Rattle.lfs_log.proofs.CameIn.{in_list}
use Rattle.lfs_log.proofs.Cleaned.{at_one}
use Rattle.lfs_log.proofs.moving.is_among.Goals as goal

pub returns-then-from-segment-clause-yes : goal.returns-then-from-segment-clause-yes
returns-then-from-segment-clause-yes c on = (
  c.if-address-lt-CHECKPOINT_SLOTS.false,
  subst (IsIn c.args.victims.now) (sym c.from.ensures ∙ c.if-from-segment.true ∙ c.segment_of-segment.ensures)
      (in_list c.args.victims.now c.loop-victim.victim-index c.loop-victim-test.true),
)

pub returns-clause-no : goal.returns-clause-no
returns-clause-no c off above among =
    at_one (λ (s : ℕ). s ≡ c.segment_of-segment.result → ⊥) c.args.victims.now _
    (λ i lt. c.loop-victim.invariant i (let end = c.loop-victim-test.false in omega (arith, lt, end))) among
    (sym c.segment_of-segment.ensures)
