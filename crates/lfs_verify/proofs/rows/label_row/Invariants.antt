use Rattle.lfs_verify.specs.Keeping.{OfContent}
use Rattle.std.proofs.Common.{◌≡◌, ◌<◌, ◌≤◌, ◌+◌, ◌-◌, ◌*◌, ◌↔◌, ℕ, get_or, length}
use Rattle.lfs_model.specs.Reach.{row_by}
use Rattle.lfs_verify.specs.Rows.{HasRow, from}
use Rattle.lfs_verify.proofs.LabelSteps.{LabelledTo}
use Rattle.lfs_verify.proofs.Keeping.{KeepsSoFar}
use Rattle.lfs_verify.proofs.rows.label_row.Given as goal

abbrev pub invariant-loop-at : goal.invariant-loop-at
invariant-loop-at g l =
    let old = g.D.SectorDevice.state l.initial.device in
    let now = g.D.SectorDevice.state l.device in
    record {
      keeps : KeepsSoFar old now l.initial.labels l.labels;
      within : l.at ≤ l.used;
      before : (i : ℕ) → i < 2 + 64 * l.segment → get_or l.labels i 0 ≡ get_or l.initial.labels i 0;
      behind : (i : ℕ) → 2 + 64 * l.segment + l.at ≤ i → get_or l.labels i 0 ≡ 0;
      rest : OfContent old now (λ c. (2 + 64 * l.segment + l.used ≤ length c)
          × (HasRow (from c l.used l.segment l.at) ↔ HasRow (row_by c l.used l.segment)));
      so_far : OfContent old now (λ c. HasRow (row_by c l.used l.segment) → LabelledTo c l.used l.segment l.labels l.at);
    }

abbrev pub decreases-loop-at : goal.decreases-loop-at
decreases-loop-at g l = l.used - l.at
