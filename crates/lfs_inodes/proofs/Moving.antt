-- The block with the least number, and a block that leaves memory.
use Rattle.std.proofs.Common.{◌≡◌, ◌<◌, ◌≤◌, ⊎_elim, ◌+◌, cond, ℕ, zero, suc, List, [], length, get_or, Option, Some, None, sym, ◌∙◌, ap}
use Rattle.std.proofs.Common.{subst, arith}
use Rattle.std.specs.Prelude.{T, is_some}
use Rattle.std.specs.Ordering.{nat_cmp}
use Rattle.std.specs.FinMap.{find, is_sorted}
use Rattle.std.proofs.lemmas.Bool.{cases_lt}
use Rattle.lfs_model.specs.Entry.{Entry}
use Rattle.lfs_model.specs.Memory.{parent, IsOfFile}
use Rattle.lfs_model.specs.Running.{IsLowest}
use Rattle.lfs_model.proofs.Entries.{same_entry}
use Rattle.lfs_model.specs.Staging.{ChangesTo}
use Rattle.lfs_inodes.specs.Code.{code, entry_at, IsCode}
use Rattle.lfs_inodes.specs.Blocks.{Blocks, TableValue, blocks_of, blocks_in, number_at, HasNumberAt}
use Rattle.lfs_inodes.proofs.Codes.{code_entry, entry_code, code_below, of_file}
use Rattle.lfs_inodes.proofs.Blocks.{rises, find_none, find_at, entry_found}

-- what is found isn't below the first
not_below : (es : Blocks) → T (is_sorted nat_cmp es) → (c : ℕ) (v : List ℕ) → find nat_cmp c es ≡ Some v → number_at es 0 ≤ c
not_below es sorted c v is =
    ⊎_elim
    (λ lt.
    let none : find nat_cmp c es ≡ None = find_none es c (λ j low same. first_least j low (omega arith)) in
    absurd (cc))
    (λ le. le)
    (cases_lt c (number_at es 0))
  where
    first_least : (j : ℕ) → j < length es → number_at es j < number_at es 0 → ⊥
    first_least zero low lt = omega arith
    first_least (suc j) low lt = omega (arith, rises es sorted 0 (suc j) (omega arith) low)

-- the numbers are those of keys
abbrev pub AreSmall : Blocks → Type 0
AreSmall es = (j : ℕ) → j < length es → number_at es j < 4294967296

pub named : (es : Blocks) → AreSmall es → (c : ℕ) {v : List ℕ} → find nat_cmp c es ≡ Some v → c < 4294967296
named es small c is =
    ⊎_elim
    (λ lt. lt)
    (λ le.
    let none : find nat_cmp c es ≡ None = find_none es c (λ j low same. omega (arith, small j low)) in
    absurd (cc))
    (cases_lt c 4294967296)

pub are_of_files : (es : Blocks) → AreSmall es → (x : Entry) (v : List ℕ) → blocks_in es x ≡ Some v → IsOfFile x
are_of_files es small x v is = subst IsOfFile (entry_code x (named es small (code x) is)) (of_file (code x))

module _ (es : Blocks) (sorted : T (is_sorted nat_cmp es)) (small : AreSmall es) (c : ℕ) (k : IsCode c) (at : HasNumberAt es c 0) where
  none_below : (y : Entry) (v : List ℕ) → parent y ≡ entry_at c → blocks_in es y ≡ Some v → (y ≡ entry_at c → ⊥) → ⊥
  none_below y v above there ne =
      let least = not_below es sorted (code y) v there in
      let b = code_below y (λ own. ne (sym own ∙ above)) (named es small (code y) there) in
      let up : code (parent y) ≡ c = ap code above ∙ code_entry c k in
      omega arith

  pub first_is_lowest : IsLowest (blocks_in es) (entry_at c)
  first_is_lowest = record {
    bytes = (get_or es 0 (0, [])).1;
    there = entry_found es k ∙ find_at sorted c 0 at;
    lowest = λ y v above there. ⊎_elim (λ same. same)
        (λ ne. absurd (none_below y v above there ne)) (same_entry y (entry_at c));
  }

-- ---- what leaves was there
pub differ : {c d : ℕ} → IsCode c → IsCode d → c < d → entry_at c ≡ entry_at d → ⊥
differ {c} {d} is at lt same = grind arith

pub one_less : (mid new : Blocks) (c : ℕ) {n : ℕ} {v : List ℕ} → find nat_cmp c mid ≡ Some v
    → cond (is_some (find nat_cmp c mid)) 1 0 + length new ≡ length mid → length mid ≡ n → length new + 1 ≡ n
one_less mid new c found count same = grind arith

-- the same of the table's value
pub lowest_value : (t : TableValue) → T (is_sorted nat_cmp t.blocks) → AreSmall t.blocks → (c : ℕ) → IsCode c → HasNumberAt t.blocks c 0
    → IsLowest (blocks_of t) (entry_at c)
lowest_value t = first_is_lowest t.blocks

-- ---- what stands at a number, how many there are and may be, stays as the block above is patched
pub record IsSameAt (now mid : TableValue) (c : ℕ) : Type 0 where
  pub found : find nat_cmp c mid.blocks ≡ find nat_cmp c now.blocks
  pub count : length mid.blocks ≡ length now.blocks
  pub room : mid.capacity ≡ now.capacity

pub same_self : {now mid : TableValue} (c : ℕ) → mid ≡ now → IsSameAt now mid c
same_self c same = grind arith

pub same_patched : (now : TableValue) {mid new : TableValue} {c d : ℕ} {o : Option (List ℕ)} → IsCode c → IsCode d → c < d → mid ≡ new
    → length new.blocks ≡ length now.blocks → new.capacity ≡ now.capacity
    → ChangesTo (blocks_of now) (blocks_of new) (entry_at d) o → IsSameAt now mid c
same_patched now {new} {c} {d} is at lt same count room changes = record {
  found =
      ap (λ t. find nat_cmp c t.blocks) same
      ∙ sym (entry_found new.blocks is) ∙ changes.others (entry_at c) (differ is at lt) ∙ entry_found now.blocks is;
  count = ap (λ t. length t.blocks) same ∙ count;
  room = ap (λ t. t.capacity) same ∙ room;
}

pub still_room : {now mid : TableValue} {c : ℕ} → IsSameAt now mid c → (find nat_cmp c now.blocks ≡ None
    → length now.blocks < now.capacity.limit) → find nat_cmp c mid.blocks ≡ None → length mid.blocks < mid.capacity.limit
still_room same room none = grind arith

pub still_counts : {now mid : TableValue} {c : ℕ} (n : ℕ) → IsSameAt now mid c
    → n ≡ cond (is_some (find nat_cmp c mid.blocks)) (length mid.blocks) (length mid.blocks + 1)
    → n ≡ cond (is_some (find nat_cmp c now.blocks)) (length now.blocks) (length now.blocks + 1)
still_counts {now} {mid} {c} n same is = grind arith
