-- Blocks of pointers in memory that lead nowhere.
use Rattle.std.proofs.Common.{◌≡◌, ◌<◌, ⊎_elim, ℕ, suc, List, [], ◌∷◌, length, Some, sym, ◌∙◌, arith}
use Rattle.std.specs.Ordering.{nat_cmp}
use Rattle.std.specs.FinMap.{find}
use Rattle.std.proofs.lemmas.Bool.{cases_eq}
use Rattle.lfs_model.specs.Entry.{Entry}
use Rattle.lfs_model.specs.Memory.{IsPointers, HasPointer}
use Rattle.lfs_model.specs.Running.{IsTight}
use Rattle.lfs_inodes.specs.Code.{code, entry_at, IsCode}
use Rattle.lfs_inodes.specs.Blocks.{Blocks, TableValue, blocks_of, number_at, HasNumberAt}
use Rattle.lfs_inodes.proofs.Blocks.{find_more}

-- where a block is that was found
place_of : (es : Blocks) (c : ℕ) (v : List ℕ) → find nat_cmp c es ≡ Some v → (j : ℕ) × (j < length es) × (number_at es j ≡ c)
place_of [] c v found = absurd cc
place_of (e ∷ es) c v found = ⊎_elim
    (λ here. (0, omega arith, here))
    (λ ne. let rest = place_of es c v (sym (find_more e es c ne) ∙ found) in
    (suc rest.0, (omega arith), rest.2))
    (cases_eq e.0 c)

-- the block at a place leads somewhere, if it is one of pointers
abbrev pub LeadsAt : TableValue → ℕ → Type 0
LeadsAt t j = (x : Entry) (b : List ℕ) → number_at t.blocks j ≡ code x → blocks_of t x ≡ Some b → IsPointers x → HasPointer b

pub leads_at : (t : TableValue) {j c : ℕ} → IsCode c → HasNumberAt t.blocks c j
    → ((b : List ℕ) → blocks_of t (entry_at c) ≡ Some b → IsPointers (entry_at c) → HasPointer b) → LeadsAt t j
leads_at t {c} is at leads x b number there pointers = grind arith

pub all_lead : (t : TableValue) → ((j : ℕ) → j < length t.blocks → LeadsAt t j) → IsTight (blocks_of t)
all_lead t each x b there pointers = let p = place_of t.blocks (code x) b there in each p.0 p.1 x b p.2 there pointers

pub more_lead : (t : TableValue) (n : ℕ) → ((j : ℕ) → j < n → LeadsAt t j) → LeadsAt t n → (j : ℕ) → j < suc n → LeadsAt t j
more_lead t n each last j lt = grind arith
