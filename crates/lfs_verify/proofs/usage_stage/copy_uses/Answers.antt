use Rattle.std.proofs.Common.{◌≡◌, ◌<◌, ◌+◌, ◌*◌, length, get_or, arith, rules}
use Rattle.lfs_model.specs.Usage.{no_use}
use Rattle.lfs_verify.proofs.UsageSteps.{uses_none, uses_more, uses_past, uses_same}
use Rattle.lfs_verify.proofs.usage_stage.copy_uses.Goals as goal
use Rattle.lfs_verify.proofs.usage_stage.copy_uses.Goals.{then-segment-used, else-segment-used}

pub loop-place-init : goal.loop-place-init
loop-place-init c = record { copies = uses_none }

pub loop-place-preserved : goal.loop-place-preserved
loop-place-preserved c =
    let was = c.loop-place.invariant.copies in
    record {
      copies = elim c.if-segment-used.branch [
        | then-segment-used w ↦
            let used_is : w.entry.inside.used ≡ (get_or c.args.block.now c.loop-place.place no_use).used = search rules in
            let live_is : w.entry.inside.live ≡ (get_or c.args.block.now c.loop-place.place no_use).live = search rules in
            let inside_live : 64 * c.args.index + c.loop-place.place < length c.loop-place.live =
            omega (arith, w.if-segment-used.true, was.used_size, was.live_size, c.requires.same) in
            uses_same _ _ _ w.used-is w.live-is (uses_more was _ _ w.if-segment-used.true inside_live used_is live_is)
        | else-segment-used w ↦
            uses_same _ _ _ w.used-is w.live-is (uses_past was w.if-segment-used.false)
      ];
    }
