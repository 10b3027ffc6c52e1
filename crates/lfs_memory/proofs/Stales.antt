-- A usage block that isn't as the device has it stays so as others change.
use Rattle.std.proofs.Common.{◌≡◌, ℕ, Bool, true, false, refl, sym, ◌∙◌}
use Rattle.std.proofs.Common.{inl, inr}
use Rattle.std.proofs.lemmas.Bool.{cases_eq}
use Rattle.lfs_segments.specs.Table.{UsageTable, stale_of}
use Rattle.lfs_segments.specs.Steps.{Stales}

pub stays_stale : {old new : UsageTable} {j : ℕ} (i : ℕ) → Stales old new j → stale_of old i ≡ true → stale_of new i ≡ true
stays_stale {new} {j} i go on = elim (cases_eq i j) [
  | inl here ↦ cc
  | inr away ↦ go.stale.others i away ∙ on
]

-- where none becomes fresh
pub never_fresh : (old new : UsageTable) → ((j : ℕ) → stale_of new j ≡ false → stale_of old j ≡ false) → (i : ℕ) → stale_of old i ≡ true
    → stale_of new i ≡ true
never_fresh old new back i on = either (stale_of new i) (back i)
  where
    either : (b : Bool) → (b ≡ false → stale_of old i ≡ false) → b ≡ true
    either true h = refl
    either false h = let bad : true ≡ false = sym on ∙ h refl in cc
