-- How many slots a directory of either form has, by its bytes.
use Rattle.lfs_steps.proofs.Prelude.{◌≡◌, ◌<◌, ◌≤◌, ◌+◌, ◌*◌, ◌-◌, ◌/◌, ◌%◌, ℕ, zero, suc, arith, slot_len}

-- a directory of so many slots, each of one name
pub slots_whole : (form : ℕ) {names size : ℕ} → names ≡ size / slot_len form → size % slot_len form ≡ 0 → slot_len form * names ≡ size
slots_whole zero many whole = omega (arith, many, whole)
slots_whole (suc form) many whole = omega (arith, many, whole)

pub few_slots : (form names : ℕ) {size : ℕ} → slot_len form * names ≡ size → names ≤ 1024 → size ≤ 1024 * slot_len form
few_slots zero names many few = omega (arith, many, few)
few_slots (suc form) names many few = omega (arith, many, few)

-- one that has a name has a slot
pub some_slot : (form names : ℕ) {size : ℕ} → slot_len form * names ≡ size → 0 < names → slot_len form ≤ size
some_slot zero names many some = omega (arith, many, some)
some_slot (suc form) names many some = omega (arith, many, some)

-- one of more than 1,023 slots has 1,024 names at least, and one of fewer has fewer
pub all_slots : (form names : ℕ) {size : ℕ} → slot_len form * names ≡ size → 1023 * slot_len form < size → 1024 ≤ names
all_slots zero names many full = omega (arith, many, full)
all_slots (suc form) names many full = omega (arith, many, full)

pub free_slots : (form names : ℕ) {size : ℕ} → slot_len form * names ≡ size → size ≤ 1023 * slot_len form → names < 1024
free_slots zero names many free = omega (arith, many, free)
free_slots (suc form) names many free = omega (arith, many, free)

pub some_names : (form names : ℕ) {size : ℕ} → slot_len form * names ≡ size → 0 < size → 0 < names
some_names zero names many some = omega (arith, many, some)
some_names (suc form) names many some = omega (arith, many, some)

-- no bytes are no names
pub no_slots : (form names : ℕ) {size : ℕ} → slot_len form * names ≡ size → size ≡ 0 → names ≡ 0
no_slots zero names many none = omega (arith, many, none)
no_slots (suc form) names many none = omega (arith, many, none)

pub slot_some : (form : ℕ) → (64 ≤ slot_len form) × (slot_len form ≤ 128)
slot_some zero = (omega arith, omega arith)
slot_some (suc form) = (omega arith, omega arith)

-- with one slot more, or one less, it is whole slots
pub whole_more : (form size : ℕ) → size % slot_len form ≡ 0 → (size + slot_len form) % slot_len form ≡ 0
whole_more zero size whole = omega (arith, whole)
whole_more (suc form) size whole = omega (arith, whole)

pub whole_less : (form size : ℕ) → size % slot_len form ≡ 0 → slot_len form ≤ size → (size - slot_len form) % slot_len form ≡ 0
whole_less zero size whole some = omega (arith, whole, some)
whole_less (suc form) size whole some = omega (arith, whole, some)
