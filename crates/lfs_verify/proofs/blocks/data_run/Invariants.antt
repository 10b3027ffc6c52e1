use Rattle.lfs_verify.specs.Keeping.{OfWalk}
use Rattle.std.proofs.Common.{◌≡◌, ◌<◌, ◌+◌, ◌*◌, ℕ}
use Rattle.lfs_model.specs.Content.{block}
use Rattle.lfs_model.specs.Entry.{Data, Inode, header, word}
use Rattle.lfs_model.specs.Reach.{view, address}
use Rattle.lfs_verify.specs.Walk.{Walked}
use Rattle.lfs_verify.proofs.Keeping.{KeepsSoFar}
use Rattle.lfs_verify.proofs.blocks.data_run.Given as goal

abbrev pub invariant-loop-place : goal.invariant-loop-place
invariant-loop-place g l =
    let old = g.D.SectorDevice.state l.initial.device in
    let now = g.D.SectorDevice.state l.device in
    record {
      keeps : KeepsSoFar old now l.initial.marks l.marks;
      walked : OfWalk old now (λ c k. ((j : ℕ) → j < l.count → word l.words (l.first + j) ≡ address c k (Data l.file (l.index + j)))
          → l.size ≡ (header (block c (address c k (Inode l.file)))).size
          → Walked (view c k) l.initial.marks (536624 + 16624 * l.file + l.index)
          → Walked (view c k) l.marks (536624 + 16624 * l.file + l.index + l.place));
    }
