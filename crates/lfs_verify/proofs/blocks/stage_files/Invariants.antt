use Rattle.lfs_verify.specs.Keeping.{OfWalk}
use Rattle.std.proofs.Common.{◌≡◌, ◌≤◌}
use Rattle.lfs_model.specs.Reach.{view}
use Rattle.lfs_verify.specs.FileStages.{file_step}
use Rattle.lfs_verify.specs.Kept.{there_below, KeepsInodes}
use Rattle.lfs_verify.specs.Walk.{Walked}
use Rattle.lfs_verify.specs.Take.{Lists}
use Rattle.lfs_verify.proofs.Keeping.{KeepsSoFar}
use Rattle.lfs_verify.proofs.blocks.stage_files.Given as goal

abbrev pub invariant-loop-file : goal.invariant-loop-file
invariant-loop-file g l =
    let old = g.D.SectorDevice.state l.initial.device in
    let now = g.D.SectorDevice.state l.device in
    record {
      keeps : KeepsSoFar old now l.initial.marks l.marks;
      few : l.place ≤ l.file;
      place : l.place ≡ there_below l.map l.file;
      walked : OfWalk old now (λ c k. Lists (view c k) l.map → KeepsInodes c l.map l.inodes
          → Walked (view c k) l.initial.marks (file_step l.stage 0) → Walked (view c k) l.marks (file_step l.stage l.file));
    }
