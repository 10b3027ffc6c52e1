-- Blocks that are stored, or aren't where they are zeros alone.
use Rattle.std.proofs.Common.{◌≡◌, ◌<◌, ⊎_elim, ◌==◌, cond, ℕ, zero, suc, Bool, true, false, List, [], ◌∷◌, length, refl, sym, ◌∙◌, ap}
use Rattle.std.proofs.Common.{Option, arith, slice_index, eqb-true}
use Rattle.std.proofs.lemmas.Bool.{cases_Bool, and_parts}
use Rattle.lfs_model.specs.Changing.{IsWithBlock, IsWithHeader}
use Rattle.lfs_model.specs.Entry.{Data, Header}
use Rattle.lfs_model.specs.Objects.{AreStoredWhole, IsChangedAt}
use Rattle.lfs_model.specs.Stands.{LogMap}
use Rattle.lfs_cleaner.specs.log.memory.Changing.{is_blank, stored}
use Rattle.lfs_store.specs.Pieces.{HoldsBlock}

blank_zero : (bytes : List ℕ) → is_blank bytes ≡ true → (k : ℕ) → slice_index bytes k ≡ 0
unfolding is_blank
blank_zero [] on k = refl
blank_zero (zero ∷ bytes) on zero = refl
blank_zero (zero ∷ bytes) on (suc k) = blank_zero bytes on k
blank_zero (suc b ∷ bytes) on k = absurd (omega (arith, eqb-true (suc b) 0 (and_parts (suc b == 0) (is_blank bytes) on).0))

some_byte : (bytes : List ℕ) → is_blank bytes ≡ false → (k : ℕ) × (0 < slice_index bytes k)
unfolding is_blank
some_byte [] off = absurd cc
some_byte (zero ∷ bytes) off = let rest = some_byte bytes off in (suc rest.0, rest.1)
some_byte (suc b ∷ bytes) off = (0, omega arith)

-- What is stored of a block reads as the block.
pub stored_reads : (bytes : List ℕ) (k : ℕ) → slice_index (stored bytes) k ≡ slice_index bytes k
stored_reads bytes k = ⊎_elim
    (λ (on : is_blank bytes ≡ true). ap (λ (b : Bool). slice_index (cond b [] bytes) k) on ∙ sym (blank_zero bytes on k))
    (λ (off : is_blank bytes ≡ false). ap (λ (b : Bool). slice_index (cond b [] bytes) k) off)
    (cases_Bool (is_blank bytes))

-- It is none, or a sector with a byte that isn't zero.
pub stored_whole : (bytes : List ℕ) → length bytes ≡ 512 → 0 < length (stored bytes)
    → (length (stored bytes) ≡ 512) × ((k : ℕ) × (0 < slice_index (stored bytes) k))
stored_whole bytes long some = ⊎_elim
    (λ (on : is_blank bytes ≡ true). let none : length (stored bytes) ≡ 0 = cc in
    absurd (omega arith))
    (λ (off : is_blank bytes ≡ false).
    let is : stored bytes ≡ bytes = cc in
    let one = some_byte _ off in
    (ap length is ∙ long, (one.0, rw is one.1))) (cases_Bool (is_blank bytes))

-- ---- log maps with another block, and with another header
module _ {m m' : LogMap} {n i : ℕ} {bytes : List ℕ} (with_it : IsWithBlock m n i bytes m') where
  pub other_block : (l : ℕ) → (l ≡ i → ⊥) → m'.block n l ≡ m.block n l
  other_block l ne = with_it.others n l (λ h. ne (place h))
    where
      place : Data n l ≡ Data n i → l ≡ i
      place h = cc

  pub block_apart : IsChangedAt m n m'
  block_apart =
      record { headers = λ k ne. with_it.header k; blocks = λ k l ne. with_it.others k l (λ h. ne (file k l h)); version = with_it.version }
    where
      file : (k l : ℕ) → Data k l ≡ Data n i → k ≡ n
      file k l h = cc

-- a header changes no more than its file
pub header_apart : {m m' : LogMap} {n : ℕ} {h : Option Header} → IsWithHeader m n h m' → IsChangedAt m n m'
header_apart with_it = record { headers = with_it.others; blocks = λ k i ne. with_it.block k i; version = with_it.version }

pub changed_twice : {m m' m'' : LogMap} {n : ℕ} → IsChangedAt m n m' → IsChangedAt m' n m'' → IsChangedAt m n m''
changed_twice first next = record {
  headers = λ k ne. next.headers k ne ∙ first.headers k ne;
  blocks = λ k i ne. next.blocks k i ne ∙ first.blocks k i ne;
  version = cc;
}

pub changed_none : {m : LogMap} {n : ℕ} → IsChangedAt m n m
changed_none = record { headers = λ k ne. refl; blocks = λ k i ne. refl; version = refl }

-- A file whose blocks are the same is whole.
pub same_whole : {m : LogMap} {m' : LogMap} {n : ℕ} → ((i : ℕ) → m'.block n i ≡ m.block n i) → AreStoredWhole m n → AreStoredWhole m' n
same_whole same was = record {
  long = λ i has. cc (same i, was.long i (rw (← (same i)) has));
  nonzero = λ i has.
      let one = was.nonzero i (rw (← (same i)) has) in
      (one.0, rw (same i) one.1);
}

-- ---- what is put is held, and so are the other blocks
pub held_put : (m m' : LogMap) (n i : ℕ) (new : List ℕ) → length new ≡ 512 → IsWithBlock m n i (stored new) m' → HoldsBlock m' n i new
held_put m m' n i new long with_it =
    record { long = long; bytes = λ k. cc (stored_reads _ _) }
