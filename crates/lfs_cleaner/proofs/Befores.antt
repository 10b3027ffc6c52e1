-- A pass that is tried before a change.
use Rattle.std.proofs.Common.{◌≡◌, ◌⊎◌, ⊎_elim, false, arith}
use Rattle.lfs_model.specs.Device.{DeviceState}
use Rattle.lfs_log.specs.LogState.{HoldsStill, LogState}
use Rattle.lfs_cleaner.specs.Passing.{FailsPass, PassesFor, RefusesPass, TriesPass}
use Rattle.lfs_cleaner.specs.Making.{KeepsMap}
use Rattle.lfs_cleaner.proofs.CleanEnds.{keeps_cleans, keeps_still, keeps_weaker}

module _ {D : Type 0} {state : D → DeviceState} where
  -- it is made, or the log holds what it held
  tried : (X : Type 0) {h now : LogState D} → (PassesFor state 1 h now → X) → (HoldsStill state h now → X) → TriesPass state h now → X
  tried X made refused tries = ⊎_elim made
      (λ (none : RefusesPass state _ _ ⊎ FailsPass state _ _). ⊎_elim (λ r. refused r.still) (λ f. refused f.still) none) tries

  pub keeps_tried : {h now : LogState D} → h.halted ≡ false → TriesPass state h now → now.totals ≡ h.totals → KeepsMap state h now 1
  keeps_tried running tries totals = tried _ (λ made. keeps_cleans _ made.cleans totals)
      (λ still. keeps_weaker _ (keeps_still _ running still) (omega arith)) tries
