-- A directory and those above it, one after the other.
use Rattle.std.proofs.Common.{◌≡◌, ◌≢◌, ◌<◌, ◌≤◌, ℕ, suc, List, sym, ◌∙◌, ap, ⊎_elim, arith}
use Rattle.std.proofs.lemmas.Bool.{cases_lt}
use Rattle.lfs_path.specs.Trees.{here, risen}
use Rattle.lfs_entries.specs.Renaming.{risen_by}

-- The walk came so far up, past directories of other numbers.
pub record RisesTo (chain : List ℕ) (n : ℕ) (now : List ℕ) : Type 0 where
  pub count : ℕ
  pub is : now ≡ risen_by count chain
  pub none : (k : ℕ) → k < count → here (risen_by k chain) ≢ n

module _ {chain : List ℕ} {n : ℕ} {now : List ℕ} (rises : RisesTo chain n now) where
  other_to : here now ≢ n → (k : ℕ) → k < suc rises.count → here (risen_by k chain) ≢ n
  other_to other k lt = ⊎_elim
      (λ (low : k < rises.count). rises.none k low)
      (λ (high : rises.count ≤ k). (
      let same : k ≡ rises.count = omega (arith, lt, high) in
      λ is. other (ap here rises.is ∙ sym (ap (λ (q : ℕ). here (risen_by q chain)) same) ∙ is)))
      (cases_lt k rises.count)

  pub rises_more : here now ≢ n → RisesTo chain n (risen now)
  rises_more other = record { count = suc rises.count; is = ap risen rises.is; none = other_to other }
