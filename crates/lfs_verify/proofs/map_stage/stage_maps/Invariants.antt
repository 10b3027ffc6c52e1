use Rattle.lfs_verify.specs.Keeping.{OfContent}
use Rattle.std.proofs.Common.{◌≡◌, ◌+◌, length}
use Rattle.lfs_model.specs.Reach.{view}
use Rattle.lfs_verify.specs.MapTables.{ListsUpTo, IsEmptyFrom}
use Rattle.lfs_verify.specs.Walk.{Walked}
use Rattle.lfs_verify.proofs.Keeping.{KeepsSoFar}
use Rattle.lfs_verify.proofs.map_stage.stage_maps.Given as goal

abbrev pub invariant-loop-index : goal.invariant-loop-index
invariant-loop-index g l =
    let old = g.D.SectorDevice.state l.initial.device in
    let now = g.D.SectorDevice.state l.device in
    record {
      keeps : KeepsSoFar old now l.initial.marks l.marks;
      files : length l.map ≡ length l.initial.map;
      empty : IsEmptyFrom l.map l.index;
      lists : OfContent old now (λ c. ListsUpTo (view c l.checkpoint) l.map l.index);
      walked : OfContent old now (λ c. Walked (view c l.checkpoint) l.initial.marks 16
          → Walked (view c l.checkpoint) l.marks (16 + l.index));
    }
