-- Which blocks come into memory, one at a time.
use Rattle.std.proofs.Common.{◌≡◌, ◌<◌, ◌≤◌, ◌+◌, ℕ, zero, suc, List, [], ◌∷◌, length, get_or, Some, None, refl, sym, ◌∙◌, ap}
use Rattle.std.proofs.Common.{arith, inl, inr}
use Rattle.lfs_model.specs.Entry.{Entry, Data, Leaf, Double, Inode, Map, Usage}
use Rattle.lfs_model.specs.Members.{IsIn}
use Rattle.lfs_model.specs.Memory.{Memory, parent}
use Rattle.lfs_model.proofs.Entries.{no_data_parent}
use Rattle.lfs_memory.specs.inodes.Blocks.{TableValue, blocks_of}
use Rattle.lfs_memory.specs.inodes.Code.{IsCode, entry_at}
use Rattle.lfs_memory.specs.declared.memory.LogMemory.{LogMemory}
use Rattle.lfs_memory.specs.Lifting.{IsInMemory}
use Rattle.lfs_log.specs.Relocating.{BringsOne, IsDataBlock, IsInOrder}
use Rattle.lfs_log.specs.Relocating.{StandsWhere}
use Rattle.lfs_log.proofs.TableEntries.{one_came}

-- a block of data has none below it
pub no_data_above : (x y : Entry) → y ≡ parent x → IsDataBlock y → ⊥
no_data_above x (Data n i) named is = no_data_parent n i x (sym named)
no_data_above x (Leaf n q) named is = is
no_data_above x (Double n) named is = is
no_data_above x (Inode n) named is = is
no_data_above x (Map j) named is = is
no_data_above x (Usage j) named is = is

-- what stands somewhere stood there before
pub stood_before : (P : ℕ → Type 0) (M M' : Memory) (x : Entry) → ((y : Entry) → 2 ≤ M'.at y → M.at y ≡ M'.at y) → StandsWhere P M' x
    → StandsWhere P M x
stood_before P M M' x traces stands = let same = traces x stands.0 in
    (let above = stands.0 in omega (arith, same, above), λ is. rw same (stands.1 is))

-- ---- a block that comes in where the table grows by one
pub brings_same : (v v' : LogMemory) (x : Entry) → v'.dirty ≡ v.dirty → BringsOne v v' x
brings_same v v' x same y there = inl (rw (← same) there)

pub still_out : (v v' : LogMemory) (x : Entry) → v'.dirty ≡ v.dirty → blocks_of v.dirty x ≡ None → IsInMemory v' x → ⊥
still_out v v' x same none there =
    let bad : None ≡ Some there.0 = sym none ∙ sym (ap (λ (t : TableValue). blocks_of t x) same) ∙ there.1 in
    absurd (cc)

pub brings_one : (v v' : LogMemory) {c : ℕ} → IsCode c → IsInOrder v.dirty → IsInOrder v'.dirty → blocks_of v.dirty (entry_at c) ≡ None
    → ((x : Entry) → IsInMemory v x → IsInMemory v' x) → IsInMemory v' (entry_at c)
    → length v'.dirty.blocks ≤ length v.dirty.blocks + 1 → BringsOne v v' (entry_at c)
brings_one v v' {c} formed order order' none stay inside few =
    one_came c order order' formed stay inside (still_out v v (entry_at c) refl none) few

-- ---- in one of some segments
pub in_list : (vs : List ℕ) (i : ℕ) → i < length vs → IsIn vs (get_or vs i 0)
in_list [] i lt = absurd (omega (arith, lt))
in_list (v ∷ vs) zero lt = inl refl
in_list (v ∷ vs) (suc i) lt = inr (in_list vs i (omega (arith, lt)))
