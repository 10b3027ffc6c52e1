-- The block of addresses, place by place.
use Rattle.std.proofs.Common.{◌≡◌, ◌*◌, ℕ, List, length, sym, ap, ◌∙◌, arith}
use Rattle.lfs_model.specs.Fields.{words}
use Rattle.lfs_model.specs.Pointers.{FitsPointers, pointer_sector, pointers_of}
use Rattle.lfs_model.proofs.Numbers.{IsBytes, length-words}
use Rattle.lfs_model.proofs.Parts.{part_whole}
use Rattle.lfs_model.proofs.Runs.{length-run, numbers_fit, words_of_numbers, numbers_is}

pub length-pointers : (ns : List ℕ) → FitsPointers ns → length (pointer_sector ns) ≡ 512
unfolding pointer_sector
length-pointers ns fits = length-words ns ∙ ap (λ (n : ℕ). 4 * n) fits.count

-- the places of a block hold its addresses
pub pointers_back : (ns : List ℕ) → FitsPointers ns → pointers_of (pointer_sector ns) ≡ ns
unfolding pointer_sector
pointers_back ns fits =
    let long : length (words ns) ≡ 512 = length-words ns ∙ ap (λ (n : ℕ). 4 * n) fits.count in
    numbers_is 128 0 (words ns) ns fits.count fits.fits (omega arith) (part_whole 512 (words ns) long)

-- two blocks of addresses of one sector are one
pub one_pointers : (a b : List ℕ) → FitsPointers a → FitsPointers b → pointer_sector a ≡ pointer_sector b → a ≡ b
one_pointers a b p q e = sym (pointers_back a p) ∙ ap (λ (s : List ℕ). pointers_of s) e ∙ pointers_back b q

-- every sector is a block of addresses
pub pointers_fit : (s : List ℕ) → IsBytes s → length s ≡ 512 → FitsPointers (pointers_of s)
pointers_fit s bytes long = record { count = length-run _ 4 128 0 s; fits = numbers_fit 128 0 s bytes (omega arith) }

pub pointers_spelled : (s : List ℕ) → IsBytes s → length s ≡ 512 → s ≡ pointer_sector (pointers_of s)
unfolding pointer_sector
pointers_spelled s bytes long = sym (words_of_numbers 128 0 s bytes (omega arith) ∙ part_whole 512 s long)
