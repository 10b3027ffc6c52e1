-- Numbers and their bytes.
use Rattle.std.proofs.Common.{◌≡◌, ◌<◌, ◌^◌, ◌+◌, ◌*◌, ◌/◌, ◌%◌, ℕ, zero, suc, List, [], ◌∷◌, ◌++◌, length, take, drop, get_or, refl, sym}
use Rattle.std.proofs.Common.{ap, ◌∙◌, arith, inl, inr, length-append}
use Rattle.std.proofs.Math.Nat.{div-div-eq-div-mul, pow-suc}
use Rattle.std.proofs.lemmas.List.{take_at, drop_at, get_or-drop, get_or-take, get_or_past, length-take, nil_from_length, length-replicate}
use Rattle.std.proofs.lemmas.Bool.{cases_lt}
use Rattle.std.specs.Int.{bytes_low_first}
use Rattle.lfs_model.specs.Fields.{le16, le32, le64, words, zeros, Are32, number_of}

-- every number of the list is a byte
abbrev pub IsBytes : List ℕ → Type 0
IsBytes xs = (i : ℕ) → get_or xs i 0 < 256

-- the bytes from the second on are those of the number without its lowest byte
bytes_shift : (j n y : ℕ) → bytes_low_first (suc j) n y ≡ bytes_low_first j n (y / 256)
bytes_shift j zero y = refl
bytes_shift zero (suc n) y = ap (λ (r : List ℕ). (y / 256 % 256) ∷ r) (bytes_shift 1 n y)
bytes_shift (suc j) (suc n) y =
    let e : y / 256 ^ suc (suc j) ≡ y / 256 / 256 ^ suc j =
    ap (λ (p : ℕ). y / p) (omega (arith, pow-suc 256 (suc j))) ∙ sym (div-div-eq-div-mul y 256 (256 ^ suc j)) in
    let rest = bytes_shift (suc (suc j)) n y in
    rw (e, rest) refl

-- the bytes of the number that n bytes spell
pub bytes_of_number : (n : ℕ) (xs : List ℕ) → length xs ≡ n → IsBytes xs → bytes_low_first 0 n (number_of xs) ≡ xs
bytes_of_number zero xs long fits = sym (nil_from_length xs long)
bytes_of_number (suc n) [] long fits = cc
bytes_of_number (suc n) (x ∷ xs) long fits =
    let byte : x < 256 = fits 0 in
    let low : (x + 256 * number_of xs) % 256 ≡ x = omega arith in
    let high : (x + 256 * number_of xs) / 256 ≡ number_of xs = omega arith in
    let rest = bytes_of_number n xs (omega arith) (λ i. fits (suc i)) in
    rw (low, bytes_shift 0 n (x + 256 * number_of xs), high, rest) refl

-- the number that the bytes of a number spell
pub number_of_bytes : (n y : ℕ) → y < 256 ^ n → number_of (bytes_low_first 0 n y) ≡ y
number_of_bytes zero y small = omega arith
number_of_bytes (suc n) y small =
    let less : y / 256 < 256 ^ n = omega (arith, pow-suc 256 n) in
    let rest : number_of (bytes_low_first 0 n (y / 256)) ≡ y / 256 = number_of_bytes n (y / 256) less in
    rw (bytes_shift 0 n y, rest) (omega arith)

pub number_of-lt : (n : ℕ) (xs : List ℕ) → length xs ≡ n → IsBytes xs → number_of xs < 256 ^ n
number_of-lt zero [] long fits = omega arith
number_of-lt zero (x ∷ xs) long fits = absurd (omega arith)
number_of-lt (suc n) [] long fits = absurd (omega arith)
number_of-lt (suc n) (x ∷ xs) long fits =
    let byte : x < 256 = fits 0 in
    let rest : number_of xs < 256 ^ n = number_of-lt n xs (omega arith) (λ i. fits (suc i)) in
    omega (arith, pow-suc 256 n)

-- numbers of n bytes that are spelled alike are one
pub bytes_inj : (n x y : ℕ) → x < 256 ^ n → y < 256 ^ n → bytes_low_first 0 n x ≡ bytes_low_first 0 n y → x ≡ y
bytes_inj n x y p q e = sym (number_of_bytes n x p) ∙ ap number_of e ∙ number_of_bytes n y q

-- ---- the fields
pub length-le16 : (n : ℕ) → length (le16 n) ≡ 2
unfolding le16
length-le16 n = refl

pub length-le32 : (n : ℕ) → length (le32 n) ≡ 4
unfolding le32
length-le32 n = refl

pub length-le64 : (n : ℕ) → length (le64 n) ≡ 8
unfolding le64
length-le64 n = refl

pub le32_inj : (x : ℕ) {y : ℕ} → x < 2 ^ 32 → y < 2 ^ 32 → le32 x ≡ le32 y → x ≡ y
unfolding le32
le32_inj x {y} p q e = bytes_inj 4 x y p q e

pub le64_inj : (x y : ℕ) → x < 2 ^ 64 → y < 2 ^ 64 → le64 x ≡ le64 y → x ≡ y
unfolding le64
le64_inj x y p q e = bytes_inj 8 x y p q e

pub le16_of_number : (xs : List ℕ) → length xs ≡ 2 → IsBytes xs → le16 (number_of xs) ≡ xs
unfolding le16
le16_of_number xs long fits = bytes_of_number 2 xs long fits

pub le32_of_number : (xs : List ℕ) → length xs ≡ 4 → IsBytes xs → le32 (number_of xs) ≡ xs
unfolding le32
le32_of_number xs long fits = bytes_of_number 4 xs long fits

pub le64_of_number : (xs : List ℕ) → length xs ≡ 8 → IsBytes xs → le64 (number_of xs) ≡ xs
unfolding le64
le64_of_number xs long fits = bytes_of_number 8 xs long fits

pub number_of-le16 : (n : ℕ) → n < 2 ^ 16 → number_of (le16 n) ≡ n
unfolding le16
number_of-le16 n small = number_of_bytes 2 n small

pub number_of-le32 : (n : ℕ) → n < 2 ^ 32 → number_of (le32 n) ≡ n
unfolding le32
number_of-le32 n small = number_of_bytes 4 n small

pub number_of-le64 : (n : ℕ) → n < 2 ^ 64 → number_of (le64 n) ≡ n
unfolding le64
number_of-le64 n small = number_of_bytes 8 n small

-- two fronts of one length with their rests
pub fronts : (a b c d : List ℕ) → length a ≡ length c → a ++ b ≡ c ++ d → (a ≡ c) × (b ≡ d)
fronts a b c d long e = (
  sym (take_at a b (length a) refl) ∙ ap (take (length a)) e ∙ take_at c d (length a) (sym long),
  sym (drop_at a b (length a) refl) ∙ ap (drop (length a)) e ∙ drop_at c d (length a) (sym long),
)

pub length-words : (ns : List ℕ) → length (words ns) ≡ 4 * length ns
unfolding words
length-words [] = refl
length-words (n ∷ ns) = omega (arith, length-append (le32 n) (words ns), length-le32 n, length-words ns)

pub length-zeros : (n : ℕ) → length (zeros n) ≡ n
unfolding zeros
length-zeros n = length-replicate n 0

pub words_inj : (xs ys : List ℕ) → length xs ≡ length ys → Are32 xs → Are32 ys → words xs ≡ words ys → xs ≡ ys
unfolding words Are32
words_inj [] [] long p q e = refl
words_inj [] (y ∷ ys) long p q e = cc
words_inj (x ∷ xs) [] long p q e = cc
words_inj (x ∷ xs) (y ∷ ys) long p q e =
    let both = fronts (le32 x) (words xs) (le32 y) (words ys) (length-le32 x ∙ sym (length-le32 y)) e in
    let first : x ≡ y = le32_inj x (p 0) (q 0) both.0 in
    let rest : xs ≡ ys = words_inj xs ys (omega arith) (λ i. p (suc i)) (λ i. q (suc i)) both.1 in
    cc

-- a front or a rest of a list of bytes is a list of bytes
pub taken_fits : (n : ℕ) (xs : List ℕ) → IsBytes xs → IsBytes (take n xs)
taken_fits n xs fits i = elim (cases_lt i n) [
  | inl below ↦ rw (get_or-take n xs i 0 below) (fits i)
  | inr past ↦ rw (get_or_past (take n xs) i 0 (omega (arith, length-take n xs))) (omega arith)
]

pub dropped_fits : (n : ℕ) (xs : List ℕ) → IsBytes xs → IsBytes (drop n xs)
dropped_fits n xs fits i = rw (get_or-drop n xs i 0) (fits (n + i))
