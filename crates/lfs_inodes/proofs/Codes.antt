-- Numbers of entries and the entries of numbers.
use Rattle.std.proofs.Common.{◌≡◌, ◌<◌, ◌≤◌, ◌/◌, ◌%◌, cond, ℕ, zero, suc, true, refl, sym, ◌∙◌}
use Rattle.std.proofs.Common.{ap, arith}
use Rattle.std.proofs.lemmas.Bool.Decides.{nat_tests}
use Rattle.lfs_model.specs.Entry.{Entry, Leaf, Map, entry_by}
use Rattle.lfs_model.specs.Memory.{parent, IsOfFile}
use Rattle.lfs_model.specs.Summary.{IsPlaced}
use Rattle.lfs_inodes.specs.Code.{fits, code, kind_by, entry_at, IsCode}

-- what a key names has a place in a summary
placed_at : (r c : ℕ) → r ≡ c / 134217728 → IsCode c → IsPlaced (kind_by r) (c / 32768 % 4096) (c % 32768)
unfolding IsPlaced
placed_at (suc (suc zero)) c is k = grind (arith, k.no_index)
placed_at r c is k = grind (arith, k.data_index, k.leaf_index, k.no_index)

pub placed : {c : ℕ} → IsCode c → IsPlaced (kind_by (c / 134217728)) (c / 32768 % 4096) (c % 32768)
placed {c} = placed_at (c / 134217728) c refl

-- ---- what is named, and what isn't
fits_not : (file index most : ℕ) → fits file index most ≡ true → (1 ≤ file) × (file ≤ 4095) × (index ≤ most)
fits_not file index most is = (grind (arith, nat_tests), grind (arith, nat_tests), grind (arith, nat_tests))

-- ---- the number of the entry of a number
code_at : (r c : ℕ) → r ≡ c / 134217728 → IsCode c → code (entry_by (kind_by r) (c / 32768 % 4096) (c % 32768)) ≡ c
code_at (suc (suc zero)) c is k = grind (arith, k.no_index)
code_at r c is k = grind (arith, k.data_index, k.leaf_index, k.no_index)

pub code_entry : (c : ℕ) → IsCode c → code (entry_at c) ≡ c
code_entry c = code_at (c / 134217728) c refl

-- ---- the entry of the number of an entry
-- where a number is given, it is what a key has
given : (file index most c : ℕ) → (P : Type 0) → cond (fits file index most) c 4294967296 < 4294967296
    → (1 ≤ file → file ≤ 4095 → index ≤ most → cond (fits file index most) c 4294967296 ≡ c → P) → P
given file index most c P small then = grind (arith, fits_not file index most)

pub entry_code : (x : Entry) → code x < 4294967296 → entry_at (code x) ≡ x
entry_code (Map j) small = absurd (omega arith)
entry_code x small = grind arith

pub code_is : (x : Entry) → code x < 4294967296 → IsCode (code x)
code_is (Map j) small = absurd (omega arith)
code_is x small = grind arith

-- an entry has the number of a key where it is the key's
pub entry_of_code : (x : Entry) {c : ℕ} → IsCode c → code x ≡ c → x ≡ entry_at c
entry_of_code x k same = sym (entry_code x (omega arith)) ∙ ap entry_at same

-- ---- a block has a lower number than the block that points to it
pub code_below : (x : Entry) → (parent x ≡ x → ⊥) → code x < 4294967296 → code x < code (parent x)
code_below (Leaf n (suc q)) up small = grind arith
code_below (Map j) up small = absurd (up refl)
code_below x up small = grind arith

-- what a key names is a block of a file
of_file_at : (r c : ℕ) → IsOfFile (entry_by (kind_by r) (c / 32768 % 4096) (c % 32768))
of_file_at (suc (suc zero)) c = (c / 32768 % 4096, refl)
of_file_at r c = (c / 32768 % 4096, refl)

pub of_file : (c : ℕ) → IsOfFile (entry_at c)
of_file c = of_file_at (c / 134217728) c
