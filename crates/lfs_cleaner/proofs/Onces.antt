-- One pass where it is due, behind a commit of what is unsaved.
use Rattle.std.proofs.Common.{◌≡◌, ◌<◌, ◌≤◌, ◌+◌, ◌*◌, ◌/◌, inl, ⊎_elim, ℕ, false, arith}
use Rattle.std.proofs.Math.Nat.{mul-le-mul_right, one-mul}
use Rattle.lfs_model.specs.Checkpoint.{IsSegmentCount}
use Rattle.lfs_model.specs.Device.{DeviceState, IsLawful}
use Rattle.lfs_log.specs.LogState.{AreAllSaved, HoldsStill, LogState}
use Rattle.lfs_log.specs.Saving.{commit_orders, pass_orders}
use Rattle.lfs_cleaner.specs.Passing.{FailsPass, IsUnfit, RefusesPass}
use Rattle.lfs_cleaner.specs.Making.{CleansOnce, CommitsUnsaved, FailsPasses, KeepsMap, LacksPasses, MayNotMakeClean}
use Rattle.lfs_cleaner.specs.Making.{PassesWhereDue, once_orders, clean_orders}
use Rattle.lfs_cleaner.proofs.CleanEnds.{keeps_none, keeps_still, keeps_weaker, read_fault, repeats_passes}
use Rattle.lfs_log.proofs.LogReads.{segment_count}
use Rattle.lfs_cleaner.proofs.CleanBounds.{may_pass, passes_none}

-- ---- orders
-- a commit, and a pass behind it
pub once_told : (t0 t1 t2 : ℕ) {n n' : ℕ} → n' ≡ n → t1 ≤ t0 + commit_orders → t2 ≤ t1 + pass_orders n' → t2 ≤ t0 + once_orders n
once_told t0 t1 t2 same first second = omega (arith, same, first, second)

-- no more than where room is made
pub once_within : {n : ℕ} → IsSegmentCount n → once_orders n ≤ clean_orders n
once_within {n} count = let least = count.least in more (n / 8) (8 * n + 4) (omega (arith, least))
  where
    more : (eighth p : ℕ) → 1 ≤ eighth → commit_orders + p ≤ commit_orders + eighth * p
    more eighth p le = let times = mul-le-mul_right p le in let one = one-mul p in omega (arith, times, one)

module _ {D : Type 0} {state : D → DeviceState} where
  -- a pass may be made where room can be
  unfit_lacks : {h now : LogState D} → IsLawful (state h.device) → h.halted ≡ false → AreAllSaved h → 4 * h.clean < h.segments
      → HoldsStill state h now → IsUnfit state h now → MayNotMakeClean state h now
  unfit_lacks lawful running nothing few still unfit k m0 m keeps may =
      let least = (segment_count _ lawful may.holds).least in
      let next =
      may_pass nothing (passes_none lawful running) few (still.carries.kept_before keeps) may
      (omega (arith, least)) in
      unfit next.0 next.1 m keeps next.2

  pub keeps_due : {h now : LogState D} → IsLawful (state h.device) → h.halted ≡ false → PassesWhereDue state h now → now.totals ≡ h.totals
      → KeepsMap state h now 1
  keeps_due lawful running due totals = ⊎_elim (λ need. (repeats_passes _ need totals).keeps)
      (λ none. rw none.1 (keeps_weaker _ (keeps_none _ _ lawful running) (omega arith))) due

  -- ---- a pass that isn't made
  pub lacks_pass : {h now : LogState D} → IsLawful (state h.device) → h.halted ≡ false → AreAllSaved h
      → 4 * h.clean < h.segments → RefusesPass state h now → LacksPasses state h now 0
  lacks_pass lawful running nothing few refuses = record {
    keeps = keeps_still _ running refuses.still;
    never = unfit_lacks lawful running nothing few refuses.still refuses.unfit;
  }

  pub fails_pass : {h now : LogState D} → h.halted ≡ false → FailsPass state h now → FailsPasses state h now 0
  fails_pass {now} running fails = record { keeps = keeps_still _ running fails.still; fault = read_fault _ now fails.fault }

  -- a pass behind a commit
  pub once_behind : {a b c : LogState D} → CommitsUnsaved state a b → PassesWhereDue state b c → CleansOnce state a c
  once_behind {b} commits passes = inl (record { between = b; commits = commits; passes = passes })
