use Rattle.lfs_verify.specs.Keeping.{OfWalk, OfContent}
use Rattle.std.proofs.Common.{◌≡◌, ◌<◌, ◌≤◌, ◌+◌, ◌*◌, ℕ, get_or}
use Rattle.lfs_model.specs.Reach.{row_by, view}
use Rattle.lfs_verify.specs.Labels.{HasLabels}
use Rattle.lfs_verify.specs.Rows.{HasRow}
use Rattle.lfs_verify.specs.Tables.{IsUsedTable}
use Rattle.lfs_verify.proofs.Keeping.{KeepsSoFar}
use Rattle.lfs_verify.proofs.rows.stage_rows.Given as goal

abbrev pub invariant-loop-segment : goal.invariant-loop-segment
invariant-loop-segment g l =
    let old = g.D.SectorDevice.state l.initial.device in
    let now = g.D.SectorDevice.state l.device in
    record {
      keeps : KeepsSoFar old now l.initial.labels l.labels;
      empty : (i : ℕ) → 2 + 64 * l.segment ≤ i → get_or l.labels i 0 ≡ 0;
      labels : OfWalk old now (λ c k. IsUsedTable (view c k) l.used → (s : ℕ) → s < l.segment
          → HasLabels ((view c k).row s) l.labels s);
      rows : OfContent old now (λ c. (s : ℕ) → s < l.segment → HasRow (row_by c (get_or l.used s 0) s));
    }
