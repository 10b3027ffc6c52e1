-- What `byteorder` reads, in the words of the formats.
use Rattle.std.proofs.Common.{◌≡◌, ◌<◌, ◌≤◌, ◌+◌, ◌-◌, ◌*◌, ℕ, zero, suc, List, [], ◌∷◌, length, take, drop, get_or}
use Rattle.std.proofs.Common.{refl, sym, ap, ◌∙◌, arith, inl, inr}
use Rattle.std.proofs.lemmas.List.{take-append-drop, drop-drop, length-drop, length-take-le, get_or-drop, get_or_past, nil_from_length}
use Rattle.std.proofs.lemmas.List.{take_all, length-take}
use Rattle.std.proofs.lemmas.Bool.{cases_lt}
use Rattle.byteorder.specs.Endian.{little_from, little_number, IsRead}
use Rattle.byteorder.specs.Numbers.{little_from-cons, little_from-lt}
use Rattle.lfs_model.specs.Fields.{le32, words, zeros, Are32, part, number_of, read32, numbers}
use Rattle.lfs_model.proofs.Numbers.{IsBytes, taken_fits, dropped_fits, le32_of_number, words_inj}
use Rattle.lfs_model.proofs.Parts.{length-part, part_fits, get_or-part, zeros_from_each, each_of_zeros}
use Rattle.lfs_model.proofs.Runs.{length-run, numbers_fit, words_of_numbers}

-- what `&s[at..at + n]` is
pub part_cut : (at n : ℕ) (s : List ℕ) → take (at + n - at) (drop at s) ≡ part at n s
unfolding part
part_cut at n s = ap (λ (m : ℕ). take m (drop at s)) (omega arith)

-- ---- bytes that are 0, one by one
pub cut_is : (at n : ℕ) (s : List ℕ) → take n (drop at s) ≡ part at n s
unfolding part
cut_is at n s = refl

module _ (at n : ℕ) (s : List ℕ) (room : at + n ≤ length s) where
  pub zero_byte : part at n s ≡ zeros n → (k : ℕ) → at ≤ k → k < at + n → get_or s k 0 ≡ 0
  zero_byte e k low high =
      let long = length-part at n s room in
      let is : k ≡ at + (k - at) = omega (arith, low) in
      ap (λ (j : ℕ). get_or s j 0) is
      ∙ sym (get_or-part at n s (k - at) (omega (arith, low, high))) ∙ each_of_zeros n e (k - at) (omega (arith, long, low, high))

  pub zero_part : ((k : ℕ) → at ≤ k → k < at + n → get_or s k 0 ≡ 0) → part at n s ≡ zeros n
  zero_part each =
      let long = length-part at n s room in
      zeros_from_each (part at n s) n long (λ i lt.
      get_or-part at n s i (omega (arith, long, lt)) ∙ each (at + i) (omega arith) (omega (arith, long, lt)))

number_of_none : (n i : ℕ) → little_from i n [] ≡ 0
number_of_none zero i = refl
number_of_none (suc n) i = omega (arith, number_of_none n (suc i))

-- the number in the first n bytes
pub little_is : (n : ℕ) (xs : List ℕ) → little_number n xs ≡ number_of (take n xs)
little_is zero xs = refl
little_is (suc n) [] = number_of_none (suc n) 0
little_is (suc n) (x ∷ xs) = omega (arith, little_from-cons 0 n x xs, little_is n xs)

-- the number in a part
pub little_at : (n at : ℕ) (s : List ℕ) → little_number n (take (at + n - at) (drop at s)) ≡ number_of (part at n s)
unfolding part
little_at n at s =
    ap (little_number n) (part_cut at n s) ∙ little_is n (part at n s)
    ∙ ap number_of (take_all n (take n (drop at s)) (omega (arith, length-take n (drop at s))))

-- the numbers that were read from src are spelled by it
pub words_of_read : {src : List ℕ} (dst : List ℕ) → length src ≡ 4 * length dst → IsBytes src → IsRead little_number 4 src dst
    → words dst ≡ src
unfolding words
words_of_read {src} [] long fits read = sym (nil_from_length src long)
words_of_read {src} (d ∷ ds) long fits read =
    let first : d ≡ number_of (take 4 src) = read 0 (omega arith) ∙ little_is 4 src in
    let short : length (take 4 src) ≡ 4 = length-take-le 4 src (omega arith) in
    let front : le32 d ≡ take 4 src = ap le32 first ∙ le32_of_number (take 4 src) short (λ i. taken_fits 4 src fits i) in
    let rest : words ds ≡ drop 4 src = words_of_read {src = drop 4 src} ds (omega (arith, length-drop 4 src))
    (λ i. rw (get_or-drop 4 src i 0) (fits (4 + i)))
    (λ k lt. read (suc k) (omega arith)
    ∙ ap (little_number 4) (ap (λ (m : ℕ). drop m src) (omega arith) ∙ sym (drop-drop (4 * k) 4 src))) in
    rw (front, rest) (take-append-drop 4 src)

pub words_at : (at n : ℕ) (s ns : List ℕ) → length s ≡ 512 → IsBytes s → at + 4 * n ≤ 512 → length ns ≡ n
    → IsRead little_number 4 (take (at + 4 * n - at) (drop at s)) ns → words ns ≡ part at (4 * n) s
words_at at n s ns long fits room many read =
    let e = part_cut at (4 * n) s in
    let there : IsRead little_number 4 (part at (4 * n) s) ns = λ k lt. read k lt
    ∙ ap (λ (b : List ℕ). little_number 4 (drop (4 * k) b)) e in
    words_of_read ns (length-part at (4 * n) s (omega arith) ∙ ap (λ (m : ℕ). 4 * m) (sym many)) (part_fits at (4 * n) s fits) there

pub words_fit : (n at : ℕ) (s ns : List ℕ) → IsBytes s → IsRead little_number 4 (take n (drop at s)) ns → Are32 ns
unfolding Are32
words_fit n at s ns fits read i = elim (cases_lt i (length ns)) [
  | inl below ↦
      let src : List ℕ = take n (drop at s) in
      let bytes : IsBytes src = taken_fits n (drop at s) (dropped_fits at s fits) in
      rw (read i below) (little_from-lt 0 4 (drop (4 * i) src) (dropped_fits (4 * i) src bytes))
  | inr past ↦ rw (get_or_past ns i 0 past) (omega arith)
]

-- an array that is read at a place holds the numbers there
pub numbers_read : (at n : ℕ) (s : List ℕ) {ns : List ℕ} → length s ≡ 512 → IsBytes s → at + 4 * n ≤ 512 → length ns ≡ n
    → IsRead little_number 4 (take (at + 4 * n - at) (drop at s)) ns → ns ≡ numbers n at s
numbers_read at n s {ns} long fits room many read =
    words_inj ns (numbers n at s) (many ∙ sym (length-run read32 4 n at s)) (words_fit (at + 4 * n - at) at s ns fits read)
    (numbers_fit n at s fits (omega arith))
    (words_at at n s ns long fits room many read ∙ sym (words_of_numbers n at s fits (omega arith)))
