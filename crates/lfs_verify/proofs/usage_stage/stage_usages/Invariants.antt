use Rattle.lfs_verify.specs.Keeping.{OfContent}
use Rattle.std.proofs.Common.{◌≡◌, ◌<◌, ◌↔◌, ◌+◌, ◌/◌, ℕ, length, get_or}
use Rattle.lfs_model.specs.Reach.{view}
use Rattle.lfs_verify.specs.UsageTables.{SaysUpTo}
use Rattle.lfs_verify.specs.Walk.{Walked}
use Rattle.lfs_verify.proofs.Keeping.{KeepsSoFar}
use Rattle.lfs_verify.proofs.usage_stage.stage_usages.Given as goal

abbrev pub invariant-loop-index : goal.invariant-loop-index
invariant-loop-index g l =
    let old = g.D.SectorDevice.state l.initial.device in
    let now = g.D.SectorDevice.state l.device in
    record {
      keeps : KeepsSoFar old now l.initial.marks l.marks;
      used : length l.used ≡ length l.initial.used;
      live : length l.live ≡ length l.initial.live;
      is_there : (j : ℕ) → j < l.index → (0 < get_or l.checkpoint.usage j 0) ↔ (j < (l.checkpoint.segments + 63) / 64);
      says : OfContent old now (λ c. SaysUpTo (view c l.checkpoint) l.used l.live l.index);
      walked : OfContent old now (λ c. Walked (view c l.checkpoint) l.initial.marks 0
          → Walked (view c l.checkpoint) l.marks l.index);
    }
