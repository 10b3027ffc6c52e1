-- Blocks leave the table, from the last place of the index to the first.
use Rattle.std.proofs.Common.{◌≡◌, ◌<◌, ◌≤◌, ◌+◌, ◌/◌, ◌%◌, ℕ, zero, suc, [], length, Some, None, refl, sym, ◌∙◌, ap, subst}
use Rattle.std.proofs.Common.{arith}
use Rattle.std.specs.List.{remove}
use Rattle.std.proofs.lemmas.List.Edits.{get_or-remove_above, length-remove}
use Rattle.lfs_model.specs.Entry.{Entry, entry_by}
use Rattle.lfs_model.specs.Memory.{file_of}
use Rattle.lfs_model.specs.Staging.{ChangesTo}
use Rattle.lfs_inodes.specs.Code.{IsCode, code, entry_at, kind_by}
use Rattle.lfs_inodes.specs.Blocks.{TableValue, blocks_of, number_at}
use Rattle.lfs_inodes.proofs.Blocks.{find_none}
use Rattle.lfs_inodes.proofs.Codes.{entry_code}

file_by : (r : ℕ) {f : ℕ} (i : ℕ) → file_of (entry_by (kind_by r) f i) ≡ Some f
file_by zero i = refl
file_by (suc zero) i = refl
file_by (suc (suc zero)) i = refl
file_by (suc (suc (suc r))) i = refl

pub file_at : (c : ℕ) → file_of (entry_at c) ≡ Some (c / 32768 % 4096)
file_at c = file_by (c / 134217728) (c % 32768)

pub file_named : (c n : ℕ) → c / 32768 % 4096 ≡ n → file_of (entry_at c) ≡ Some n
file_named c n is = file_at c ∙ ap Some is

-- From place at on there is no block any more that goes. Those that stay are as they were.
pub record LeavesFrom (old new : TableValue) (goes stays : Entry → Type 0) (at : ℕ) : Type 0 where
  pub kept : (x : Entry) → stays x → blocks_of new x ≡ blocks_of old x
  pub away : (j : ℕ) → at ≤ j → j < length new.blocks → goes (entry_at (number_at new.blocks j)) → ⊥
  pub codes : (j : ℕ) → j < length new.blocks → IsCode (number_at new.blocks j)
  pub low : at ≤ length new.blocks
  pub few : length new.blocks ≤ length old.blocks
  pub capacity : new.capacity ≡ old.capacity

module _ {goes stays : Entry → Type 0} where
  -- it goes
  pub leaves_out : ((x : Entry) → goes x → stays x → ⊥) → {old mid new : TableValue} {at a : ℕ} → suc a ≡ at
      → LeavesFrom old mid goes stays at → goes (entry_at (number_at mid.blocks a))
      → new ≡ record mid { blocks = remove mid.blocks a }
      → ChangesTo (blocks_of mid) (blocks_of new) (entry_at (number_at mid.blocks a)) None
      → ((j : ℕ) → j < length new.blocks → IsCode (number_at new.blocks j)) → LeavesFrom old new goes stays a
  leaves_out apart {mid} {new} {a} next was on is change codes = record {
    kept = λ x st. change.others x (λ here. apart x (subst goes (sym here) on) st) ∙ was.kept x st;
    away = λ j le lt now.
        was.away (j + 1) (omega arith) (omega (arith, less)) (subst (λ n. goes (entry_at n)) (above j le) now);
    codes = codes;
    low = omega (arith, less);
    few = omega (arith, less);
    capacity = ap (λ t. t.capacity) is ∙ was.capacity;
  }
    where
      inside : a < length mid.blocks
      inside = omega arith

      less : length new.blocks + 1 ≡ length mid.blocks
      less = omega (arith, ap (λ t. length t.blocks) is, length-remove mid.blocks a inside)

      above : (j : ℕ) → a ≤ j → number_at new.blocks j ≡ number_at mid.blocks (j + 1)
      above j le = ap (λ t. number_at t.blocks j) is
          ∙ ap (λ e. e.0) (get_or-remove_above mid.blocks a (0, []) j le inside)

  -- at the first place none is left
  pub leaves_ends : {old new : TableValue} {at : ℕ} → at ≤ 0 → LeavesFrom old new goes stays at → (x : Entry) → goes x
      → blocks_of new x ≡ None
  leaves_ends {new} first was x on = find_none new.blocks (code x) (λ j lt same.
      let is = was.codes j lt in
      let named : entry_at (code x) ≡ x = entry_code x (omega arith) in
      was.away j (omega arith) lt (subst goes (sym (ap entry_at same ∙ named)) on))
