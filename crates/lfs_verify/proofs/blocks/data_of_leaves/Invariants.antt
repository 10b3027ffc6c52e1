use Rattle.lfs_verify.specs.Keeping.{OfWalk}
use Rattle.std.proofs.Common.{◌≡◌, ◌+◌, ◌*◌}
use Rattle.lfs_model.specs.Content.{block}
use Rattle.lfs_model.specs.Entry.{Double, Inode, header}
use Rattle.lfs_model.specs.Reach.{view, address}
use Rattle.lfs_verify.specs.Walk.{Walked}
use Rattle.lfs_verify.proofs.Keeping.{KeepsSoFar}
use Rattle.lfs_verify.proofs.blocks.data_of_leaves.Given as goal

abbrev pub invariant-loop-place : goal.invariant-loop-place
invariant-loop-place g l =
    let old = g.D.SectorDevice.state l.initial.device in
    let now = g.D.SectorDevice.state l.device in
    record {
      keeps : KeepsSoFar old now l.initial.marks l.marks;
      walked : OfWalk old now (λ c k. block c (address c k (Double l.file)) ≡ l.root
          → l.size ≡ (header (block c (address c k (Inode l.file)))).size
          → Walked (view c k) l.initial.marks (536624 + 16624 * l.file + 240)
          → Walked (view c k) l.marks (536624 + 16624 * l.file + (112 + 128 * (l.place + 1))));
    }
