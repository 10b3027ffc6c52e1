-- The inode map in memory: what a loop leaves of it, and what its blocks spell.
use Rattle.std.proofs.Common.{Fits, w32, slice_index_or, [], ◌∷◌, ◌^◌, ◌≡◌, ◌<◌, ◌≤◌, ◌+◌, ◌*◌, ℕ}
use Rattle.std.proofs.Common.{zero, suc, Bool, false, List, get_or, replicate, refl, sym, ◌∙◌, ap, arith}
use Rattle.lfs_model.specs.Fields.{read32}
use Rattle.lfs_model.specs.Pointers.{FitsPointers, pointer_sector}
use Rattle.lfs_model.specs.Entry.{word}
use Rattle.lfs_model.specs.Stands.{LogMap}
use Rattle.lfs_model.specs.Running.{Tables}
use Rattle.lfs_model.specs.Committing.{SpellsMap}
use Rattle.lfs_model.proofs.Runs.{get_or-run}
use Rattle.lfs_model.proofs.PointerPlaces.{length-pointers, pointers_back}
use Rattle.lfs_inodes.specs.MapValue.{MapValue, IsMapOf, AreSettled, IsEmptyMap, SpellsShown, shown_in}

-- the numbers from a place on have been taken from a block, up to the i-th
pub record IsLoading (old new : List ℕ) (at i : ℕ) (block : List ℕ) : Type 0 where
  pub own : (k : ℕ) → k < i → get_or new (at + k) 0 ≡ get_or block k 0
  pub before : (n : ℕ) → n < at → get_or new n 0 ≡ get_or old n 0
  pub past : (n : ℕ) → at + i ≤ n → get_or new n 0 ≡ get_or old n 0

-- the words of a block of addresses
pub word_of_pointers : (ns : List ℕ) (i : ℕ) → FitsPointers ns → i < 128 → word (pointer_sector ns) i ≡ get_or ns i 0
unfolding word
word_of_pointers ns i fits low = sym (get_or-run read32 4 128 0 (pointer_sector ns) i 0 low
    ∙ ap (λ k. read32 k (pointer_sector ns)) (omega arith)) ∙ ap (λ xs. get_or xs i 0) (pointers_back ns fits)

module _ {v : MapValue} {j : ℕ} {ns : List ℕ} (fits : FitsPointers ns)
    (each : (i : ℕ) → i < 128 → get_or ns i 0 ≡ shown_in v (128 * j + i)) where
  pub spells_shown : (i : ℕ) × (i < 128) × (0 < get_or ns i 0) → SpellsShown v j (pointer_sector ns)
  spells_shown some = record {
    long = length-pointers ns fits;
    spells = λ i low. word_of_pointers ns i fits low ∙ each i low;
    some = (some.0, some.1, (omega (arith, word_of_pointers ns some.0 fits some.1)));
  }

  pub spelled_shown : {bytes : List ℕ} → bytes ≡ pointer_sector ns → (i : ℕ) × (i < 128) × (0 < get_or ns i 0) → SpellsShown v j bytes
  spelled_shown is some = rw is (spells_shown some)

-- words are numbers of 32 bits
pub are32_of : (ns : List ℕ) → ((i : ℕ) → Fits w32 (slice_index_or ns i 0)) → (i : ℕ) → get_or ns i 0 < 2 ^ 32
are32_of [] fits i = omega arith
are32_of (n ∷ ns) fits zero = omega (arith, (fits 0).fits)
are32_of (n ∷ ns) fits (suc i) = are32_of ns (λ k. fits (suc k)) i

module _ {v : MapValue} (m : LogMap) (t : Tables) (is : IsMapOf v m t) where
  pub spells_map : {j : ℕ} {bytes : List ℕ} → j < 32 → SpellsShown v j bytes → AreSettled m t j → SpellsMap m t j bytes
  spells_map {j} low s settled = grind arith

all_default : {X : Type 0} (n k : ℕ) (x : X) → get_or (replicate n x) k x ≡ x
all_default zero k x = refl
all_default (suc n) zero x = refl
all_default (suc n) (suc k) x = all_default n k x

pub empty_map : (n : ℕ) {xs : List ℕ} {hs : List Bool} → xs ≡ replicate n 0 → hs ≡ replicate n false
    → IsEmptyMap record { addresses = xs; hidden = hs; blocks = replicate 32 0 }
empty_map n {xs} a h = record {
  addresses = λ k. ap (λ ys. get_or ys k 0) a ∙ all_default n k 0;
  hidden = λ k. ap (λ xs. get_or xs k false) h ∙ all_default n k false;
  blocks = λ k. all_default 32 k 0;
}
