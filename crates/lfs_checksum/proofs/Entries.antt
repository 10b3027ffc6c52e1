-- A list whose entries are the steps of their indices.
use Rattle.std.proofs.Common.{◌≡◌, ℕ, zero, suc, ◌+◌, ◌<◌, ◌&&◌, Bool, true, T, List, [], ◌∷◌, length, get_or}
use Rattle.std.proofs.Common.{sym, ap, ◌∙◌, arith, eqb, eqb→eq, add-zero, zero-add}
use lib.Ieee.Fits.{and_l, and_r}
use Rattle.lfs_checksum.specs.Division.{steps}

-- whether the entries are the steps of i, i + 1 and so on
unfoldable pub are_steps : ℕ → List ℕ → Bool
are_steps i [] = true
are_steps i (x ∷ entries) = eqb x (steps 8 i) && are_steps (suc i) entries

each_is : (i : ℕ) (entries : List ℕ) → T (are_steps i entries) → (k : ℕ) → k < length entries → get_or entries k 0 ≡ steps 8 (i + k)
unfolding are_steps
each_is i [] all k low = absurd (omega arith)
each_is i (x ∷ entries) all zero low = eqb→eq _ _ (and_l _ _ all) ∙ ap (steps 8) (sym (add-zero i))
each_is i (x ∷ entries) all (suc k) low = each_is (suc i) entries (and_r (eqb x (steps 8 i)) _ all) k (omega arith) ∙ ap (steps 8) next
  where
    next : suc i + k ≡ i + suc k
    next = omega arith

pub entry_is : (entries : List ℕ) → T (are_steps 0 entries) → (i : ℕ) → i < length entries → get_or entries i 0 ≡ steps 8 i
entry_is entries all i low = each_is 0 entries all i low ∙ ap (steps 8) (zero-add i)
