-- Parts of a sector, and the numbers that are read there.
use Rattle.std.proofs.Common.{◌≡◌, ◌≤◌, ◌<◌, ◌+◌, ◌^◌, ℕ, List, [], ◌∷◌, ◌++◌, length, take, drop, get_or, refl, sym, ap, ◌∙◌, arith}
use Rattle.std.proofs.Common.{take-add}
use Rattle.std.proofs.lemmas.List.{length-drop, length-take-le, same_lists, get_or_default, get_or-replicate, get_or-take, get_or-drop}
use Rattle.std.proofs.lemmas.List.{length-replicate, drop-drop, take_all}
use Rattle.std.specs.Prelude.{replicate}
use Rattle.lfs_model.specs.Fields.{le16, le32, le64, zeros, part, number_of, read16, read32, read64}
use Rattle.lfs_model.proofs.Numbers.{IsBytes, taken_fits, dropped_fits, number_of-lt, le16_of_number, le32_of_number, le64_of_number}
use Rattle.lfs_model.proofs.Numbers.{number_of-le16, number_of-le32, number_of-le64}

pub length-part : (at n : ℕ) (s : List ℕ) → at + n ≤ length s → length (part at n s) ≡ n
unfolding part
length-part at n s fits = length-take-le n (drop at s) (omega (arith, length-drop at s))

pub part_fits : (at n : ℕ) (s : List ℕ) → IsBytes s → IsBytes (part at n s)
unfolding part
part_fits at n s fits = taken_fits n (drop at s) (dropped_fits at s fits)

pub get_or-part : (at n : ℕ) (b : List ℕ) (i : ℕ) → i < n → get_or (part at n b) i 0 ≡ get_or b (at + i) 0
unfolding part
get_or-part at n b i lt = get_or-take n (drop at b) i 0 lt ∙ get_or-drop at b i 0

-- two parts, one after the other
pub part_add : (at n m : ℕ) (s : List ℕ) → part at n s ++ part (at + n) m s ≡ part at (n + m) s
unfolding part
part_add at n m s = ap (λ (d : List ℕ). take n (drop at s) ++ take m d) (sym (drop-drop n at s)) ∙ sym (take-add n m (drop at s))

pub part_whole : (n : ℕ) (s : List ℕ) → length s ≡ n → part 0 n s ≡ s
unfolding part
part_whole n s long = take_all n s (omega arith)

single : (xs : List ℕ) → length xs ≡ 1 → xs ≡ get_or xs 0 0 ∷ []
single [] long = cc
single (x ∷ []) long = refl
single (x ∷ y ∷ xs) long = absurd (omega arith)

pub one_byte : (at : ℕ) (b : List ℕ) → at + 1 ≤ length b → part at 1 b ≡ get_or b at 0 ∷ []
one_byte at b room =
    single (part at 1 b) (length-part at 1 b room)
    ∙ ap (λ (x : ℕ). x ∷ []) (get_or-part at 1 b 0 (omega arith) ∙ ap (λ (k : ℕ). get_or b k 0) (omega arith))

-- ---- what is read is spelled there
pub le16_of_read : (at : ℕ) (s : List ℕ) → IsBytes s → at + 2 ≤ length s → le16 (read16 at s) ≡ part at 2 s
unfolding read16
le16_of_read at s fits room = le16_of_number (part at 2 s) (length-part at 2 s room) (part_fits at 2 s fits)

pub le32_of_read : (at : ℕ) (s : List ℕ) → IsBytes s → at + 4 ≤ length s → le32 (read32 at s) ≡ part at 4 s
unfolding read32
le32_of_read at s fits room = le32_of_number (part at 4 s) (length-part at 4 s room) (part_fits at 4 s fits)

pub le64_of_read : (at : ℕ) (s : List ℕ) → IsBytes s → at + 8 ≤ length s → le64 (read64 at s) ≡ part at 8 s
unfolding read64
le64_of_read at s fits room = le64_of_number (part at 8 s) (length-part at 8 s room) (part_fits at 8 s fits)

pub read32-lt : (at : ℕ) (s : List ℕ) → IsBytes s → at + 4 ≤ length s → read32 at s < 2 ^ 32
unfolding read32
read32-lt at s fits room = number_of-lt 4 (part at 4 s) (length-part at 4 s room) (part_fits at 4 s fits)

pub read64-lt : (at : ℕ) (s : List ℕ) → IsBytes s → at + 8 ≤ length s → read64 at s < 2 ^ 64
unfolding read64
read64-lt at s fits room = number_of-lt 8 (part at 8 s) (length-part at 8 s room) (part_fits at 8 s fits)

-- ---- what is spelled is read there
pub read16_is : (at : ℕ) (s : List ℕ) (n : ℕ) → n < 2 ^ 16 → part at 2 s ≡ le16 n → read16 at s ≡ n
unfolding read16
read16_is at s n small e = ap number_of e ∙ number_of-le16 n small

pub read32_is : (at : ℕ) (s : List ℕ) (n : ℕ) → n < 2 ^ 32 → part at 4 s ≡ le32 n → read32 at s ≡ n
unfolding read32
read32_is at s n small e = ap number_of e ∙ number_of-le32 n small

pub read64_is : (at : ℕ) (s : List ℕ) (n : ℕ) → n < 2 ^ 64 → part at 8 s ≡ le64 n → read64 at s ≡ n
unfolding read64
read64_is at s n small e = ap number_of e ∙ number_of-le64 n small

-- a list of zeros is known by its numbers
pub zeros_from_each : (bs : List ℕ) (n : ℕ) → length bs ≡ n → ((i : ℕ) → i < length bs → get_or bs i 0 ≡ 0) → bs ≡ zeros n
unfolding zeros
zeros_from_each bs n long each =
    same_lists bs (replicate n 0) (long ∙ sym (length-replicate n 0))
    (λ k d lt. get_or_default bs k d 0 lt ∙ each k lt ∙ sym (get_or-replicate n k 0 d (omega arith)))

pub each_of_zeros : {bs : List ℕ} (n : ℕ) → bs ≡ zeros n → (i : ℕ) → i < length bs → get_or bs i 0 ≡ 0
unfolding zeros
each_of_zeros n e i lt =
    ap (λ (b : List ℕ). get_or b i 0) e ∙ get_or-replicate n i 0 0 (omega (arith, ap length e, length-replicate {A = ℕ} n 0))
