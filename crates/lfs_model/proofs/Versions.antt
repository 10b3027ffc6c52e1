-- What holds of each version, one by one.
use Rattle.std.proofs.Common.{ℕ, zero, suc, refl, arith}
use Rattle.lfs_model.specs.Checkpoint.{IsSectorVersion, IsVersion}
use Rattle.lfs_model.specs.Tree.{IsDirectoryForm, new_form}

pub by_version : (P : ℕ → Type 0) → P 1 → P 2 → P 3 → (version : ℕ) → IsVersion version → P version
by_version P one two three zero known = absurd (omega (arith, known.0))
by_version P one two three (suc zero) known = one
by_version P one two three (suc (suc zero)) known = two
by_version P one two three (suc (suc (suc zero))) known = three
by_version P one two three (suc (suc (suc (suc version)))) known = absurd (omega (arith, known.1))

pub by_sector_version : (P : ℕ → Type 0) → P 1 → P 2 → (version : ℕ) → IsSectorVersion version → P version
by_sector_version P one two zero known = absurd (omega (arith, known.0))
by_sector_version P one two (suc zero) known = one
by_sector_version P one two (suc (suc zero)) known = two
by_sector_version P one two (suc (suc (suc version))) known = absurd (omega (arith, known.1))

pub known_sector : (version : ℕ) → IsSectorVersion version → IsVersion version
known_sector version known = (known.0, omega (arith, known.1))

-- the form of new directories is one of the version's
pub new_form_known : (version : ℕ) → IsVersion version → IsDirectoryForm version (new_form version)
new_form_known = by_version (λ v. IsDirectoryForm v (new_form v)) (omega arith) (refl, omega arith) (refl, omega arith)
