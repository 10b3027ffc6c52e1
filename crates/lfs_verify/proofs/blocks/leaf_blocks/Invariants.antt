use Rattle.lfs_verify.specs.Keeping.{OfWalk}
use Rattle.std.proofs.Common.{◌≡◌, ◌+◌, ◌*◌}
use Rattle.lfs_model.specs.Content.{block}
use Rattle.lfs_model.specs.Entry.{Double}
use Rattle.lfs_model.specs.Reach.{view, address}
use Rattle.lfs_verify.specs.Walk.{Walked}
use Rattle.lfs_verify.proofs.Keeping.{KeepsSoFar}
use Rattle.lfs_verify.proofs.blocks.leaf_blocks.Given as goal

abbrev pub invariant-loop-leaf : goal.invariant-loop-leaf
invariant-loop-leaf g l =
    let old = g.D.SectorDevice.state l.initial.device in
    let now = g.D.SectorDevice.state l.device in
    record {
      keeps : KeepsSoFar old now l.initial.marks l.marks;
      walked : OfWalk old now (λ c k. block c (address c k (Double l.file)) ≡ l.root
          → Walked (view c k) l.initial.marks (12336 + 128 * l.file) → Walked (view c k) l.marks (12336 + 128 * l.file + l.leaf));
    }
