-- Where a pass may be made it has victims, and what they bring into memory fits.
use Rattle.std.proofs.Common.{◌≡◌, ◌<◌, ◌+◌, ◌-◌, ◌/◌, ◌^◌, ℕ, zero, suc, List, [], ◌∷◌, length, get_or, ◌∙◌, arith}
use Rattle.std.specs.List.{AllByRecursion}
use Rattle.lfs_model.specs.Checkpoint.{CheckpointValue}
use Rattle.lfs_model.specs.Device.{DeviceState}
use Rattle.lfs_model.specs.Stands.{LogMap}
use Rattle.lfs_log.specs.segments.Table.{UsageTable}
use Rattle.lfs_log.specs.segments.Victims.{AreVictims, IsPressed, MayBeVictim}
use Rattle.lfs_log.specs.Cleaning.{ArePacked, MayPass}
use Rattle.lfs_log.specs.LogState.{IsWhole, LogState}
use Rattle.lfs_log.proofs.Pressing.{pressed}
use Rattle.lfs_cleaner.specs.Passing.{CanPass}

-- ---- victims may be cleaned
victim_at : (t : UsageTable) (vs : List ℕ) → AllByRecursion (MayBeVictim t) vs → (i : ℕ) → i < length vs → MayBeVictim t (get_or vs i 0)
victim_at t [] all i lt = absurd (omega (arith, lt))
victim_at t (v ∷ vs) all zero lt = all.0
victim_at t (v ∷ vs) all (suc i) lt = victim_at t vs all.1 i (omega (arith, lt))

may_pass : {D : Type 0} {state : D → DeviceState} {h : LogState D} {k : CheckpointValue} {m0 m : LogMap} {meta most : ℕ} {vs : List ℕ}
    → CanPass state h k m0 m → most ≡ h.segments / 8 + 1 → AreVictims h.usage meta most vs → MayPass h vs
may_pass {h} {vs} can is are = record {
  nothing = can.nothing.blocks;
  many = can.many;
  least = let gain = are.gain in omega (arith, gain);
  most = let few = are.few in omega (arith, few, is);
  each = λ i lt. (let used = victim_at h.usage vs are.each i lt in
      record { inside = used.0; used = used.1; before = can.untaken (get_or vs i 0); apart = used.2 });
}

-- what holds of victims by numbers holds of them by the same numbers
pub carried : (P : UsageTable → ℕ → ℕ → ℕ → List ℕ → Type 0) {t u : UsageTable} {a b m n x y : ℕ} (vs : List ℕ) {ws : List ℕ} → t ≡ u
    → a ≡ b → m ≡ n
    → x ≡ y → vs ≡ ws → P t a m x vs → P u b n y ws
carried P {u} {a} {b} {m} {n} {x} {y} vs table meta most now same is =
    rw (← same) (rw (← now) (rw (← most) (rw (← meta) (rw (← table) is))))

-- ---- so a pass isn't refused
module _ {D : Type 0} {state : D → DeviceState} {h : LogState D} {k : CheckpointValue} {m0 m : LogMap} (can : CanPass state h k m0 m) where
  pub pressed_there : IsWhole h → {meta : ℕ} → meta ≡ h.totals.meta_blocks → IsPressed h.usage meta
  pressed_there whole {meta} is =
      pressed state h k m0 m can.holds whole can.nothing.blocks meta can.map can.few (is ∙ can.counted) can.need

  pub not_refused : (h' : LogState D) → (state h'.device).keeps_model → {meta most : ℕ} {vs : List ℕ} → meta ≡ h.totals.meta_blocks
      → most ≡ h.segments / 8 + 1 → AreVictims h.usage meta most vs
      → (MayPass h vs → h.number < 2 ^ 64 - 1 → ArePacked state h h' vs)
      → ⊥
  not_refused h' keeps is is_most are lacks =
      let packed = lacks (may_pass can is_most are) can.number k m0 m keeps can.holds can.map in
      let gain = are.gain in
      let counted = is ∙ can.counted in
      omega (arith, packed, gain, counted)
