use Rattle.lfs_verify.specs.Keeping.{OfWalk, OfContent}
use Rattle.std.proofs.Common.{◌≡◌, ◌<◌, ◌≤◌, ◌⊎◌, ◌+◌, ℕ, length, get_or, vec_capacity}
use Rattle.lfs_model.specs.Checkpoint.{layout_version}
use Rattle.lfs_model.specs.Reach.{view}
use Rattle.lfs_verify.specs.Kept.{there_below, KeepsBelow}
use Rattle.lfs_verify.specs.Walk.{Walked}
use Rattle.lfs_verify.specs.Take.{Lists}
use Rattle.lfs_verify.proofs.Keeping.{KeepsSoFar}
use Rattle.lfs_verify.proofs.inode_stage.all_inodes.Given as goal

abbrev pub invariant-loop-file : goal.invariant-loop-file
invariant-loop-file g l =
    let old = g.D.SectorDevice.state l.initial.device in
    let now = g.D.SectorDevice.state l.device in
    record {
      keeps : KeepsSoFar old now l.initial.marks l.marks;
      at : (i : ℕ) → i < l.file → (get_or l.map i 0 ≡ 0) ⊎ (get_or l.map i 0 < length l.initial.marks);
      room : there_below l.map 4096 ≤ vec_capacity l.inodes;
      count : length l.inodes.items ≡ there_below l.map l.file;
      kept : OfContent old now (λ c. KeepsBelow c l.map l.inodes.items l.file);
      walked : OfWalk old now (λ c k. layout_version k ≡ l.version → Lists (view c k) l.map
          → Walked (view c k) l.initial.marks 48 → Walked (view c k) l.marks (48 + l.file));
    }
