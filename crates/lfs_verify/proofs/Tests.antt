-- Tests that fail.
use Rattle.std.proofs.Common.{◌≡◌, ◌↔◌, Bool, true, false, sym, ◌∙◌}

-- what a test that failed tells isn't so
pub fails_by : {r : Bool} {A : Type 0} → r ≡ false → (r ≡ true) ↔ A → A → ⊥
fails_by off tells is = let e : true ≡ false = sym (tells.1 is) ∙ off in absurd (cc)

-- what isn't so is told by a test that fails
pub fails_as : {A : Type 0} → (A → ⊥) → (false ≡ true) ↔ A
fails_as not = (λ on. absurd (cc), λ is. absurd (not is))
