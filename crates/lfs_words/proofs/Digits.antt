-- Bytes have one spelling in lower case digits.
use Rattle.std.proofs.Common.{◌≡◌, ◌≢◌, ℕ, zero, suc, ◌+◌, ◌*◌, ◌/◌, ◌%◌, ◌<◌, ◌≤◌, ◌-◌, ◌==◌, Bool, true, false, ◌&&◌, not, List, [], ◌∷◌}
use Rattle.std.proofs.Common.{◌++◌, length, slice_index, take, drop, Option, Ok, Err, Result, nat_lt, refl, sym, ap, ◌∙◌, subst, inl, inr}
use Rattle.std.proofs.Common.{arith}
use Rattle.std.specs.List.{list_all}
use Rattle.std.specs.Result.{MatchResult}
use Rattle.std.proofs.lemmas.Bool.{and_parts, cases_lt, eqb-true, eq-eqb, false≢true}
use Rattle.std.proofs.lemmas.List.{take-append-drop}
use Rattle.std.proofs.Math.Seq.{take-add}
use Rattle.std.specs.Io.KnownBytes.{Appends}
use Rattle.std.proofs.KnownBytes.{Appends-trans}
use Rattle.lfs_words.specs.Bytes.{AppendsSome}
use Rattle.lfs_words.proofs.Pieces.{some_front, some_then, Appends-none}
use Rattle.std.proofs.lemmas.Bool.Decides.{nat_tests}
use Rattle.hex.specs.Hex.{IsBytes, encode_lower, encode_with, lower_digits, decode_of, decode_sized}
use Rattle.hex.specs.declared.error.FromHexError.{FromHexError}
use Rattle.hex.proofs.HexLemmas.{decode_of-encode_lower, decode_of-same, decode_sized-encode_lower, length-encode_with}
use Rattle.lfs_model.specs.Script.{hex_digit}
use Rattle.lfs_words.specs.Words.{is_lower_digit, is_pairs, hex_word}

-- ---- the sixteen digits

-- the n digits from place `from` on are `first`, `first + 1`, ..
abbrev run_is : ℕ → ℕ → ℕ → Bool
run_is from first zero = true
run_is from first (suc n) = (slice_index lower_digits (from + n) == first + n) && run_is from first n

run_is-at : (from first n k : ℕ) → run_is from first n ≡ true → k < n → slice_index lower_digits (from + k) ≡ first + k
run_is-at from first zero k h lt = absurd (omega arith)
run_is-at from first (suc n) k h lt =
    let parts = and_parts (slice_index lower_digits (from + n) == first + n) (run_is from first n) h in
    elim (cases_lt k n) [
      | inl below ↦ run_is-at from first n k parts.1 below
      | inr top ↦ let same : k ≡ n = omega arith in rw same (eqb-true (slice_index lower_digits (from + n)) (first + n) parts.0)
    ]

-- a lower case digit stands at its value
pub digit_value : (c : ℕ) → is_lower_digit c ≡ true → (v : ℕ) × (v < 16) × (slice_index lower_digits v ≡ c)
digit_value c h = elim (cases_lt c 58) [
  | inl number ↦
      let low : 48 ≤ c = grind (arith, nat_tests) in
      let found = run_is-at 0 48 10 (c - 48) refl (omega arith) in
      (0 + (c - 48), omega arith, found ∙ omega arith)
  | inr letter ↦
      let low : 97 ≤ c = grind (arith, nat_tests) in
      let high : c ≤ 102 = grind (arith, nat_tests) in
      let found : slice_index lower_digits (10 + (c - 97)) ≡ 97 + (c - 97) = run_is-at 10 97 6 (c - 97) refl (omega arith) in
      (10 + (c - 97), omega arith, found ∙ omega arith)
]

-- a digit is the model's
pub digit_is : (v : ℕ) → v < 16 → slice_index lower_digits v ≡ hex_digit v
digit_is v lt = elim (cases_lt v 10) [
  | inl number ↦
      let found : slice_index lower_digits (0 + v) ≡ 48 + v = run_is-at 0 48 10 v refl number in
      let here : 0 + v ≡ v = omega arith in
      let low : nat_lt v 10 ≡ true = grind (arith, nat_tests) in
      rw low (ap (slice_index lower_digits) (sym here) ∙ found)
  | inr letter ↦
      let found : slice_index lower_digits (10 + (v - 10)) ≡ 97 + (v - 10) = run_is-at 10 97 6 (v - 10) refl (omega arith) in
      let here : 10 + (v - 10) ≡ v = omega arith in
      let high : nat_lt v 10 ≡ false = grind (arith, nat_tests) in
      rw high (ap (slice_index lower_digits) (sym here) ∙ found ∙ omega arith)
]

-- the first n digits are lower case
abbrev all_lower : ℕ → Bool
all_lower zero = true
all_lower (suc n) = is_lower_digit (slice_index lower_digits n) && all_lower n

all_lower-at : (n k : ℕ) → all_lower n ≡ true → k < n → is_lower_digit (slice_index lower_digits k) ≡ true
all_lower-at zero k h lt = absurd (omega arith)
all_lower-at (suc n) k h lt =
    let parts = and_parts (is_lower_digit (slice_index lower_digits n)) (all_lower n) h in
    elim (cases_lt k n) [
      | inl below ↦ all_lower-at n k parts.1 below
      | inr top ↦ let same : k ≡ n = omega arith in rw same parts.0
    ]

-- ---- pairs of digits

pub bytes-cons : (b : ℕ) (rest : List ℕ) → b < 256 → IsBytes rest → IsBytes (b ∷ rest)
bytes-cons b rest h hs zero = h
bytes-cons b rest h hs (suc i) = hs i

-- pairs of lower case digits are the spelling of bytes
pub spelt-pairs : (word : List ℕ) → length word % 2 ≡ 0 → list_all is_lower_digit word ≡ true
    → (bytes : List ℕ) × IsBytes bytes × (encode_lower bytes ≡ word)
unfolding encode_with
spelt-pairs [] even h = ([], λ i. omega arith, refl)
spelt-pairs (a ∷ []) even h = absurd (omega arith)
spelt-pairs (a ∷ b ∷ rest) even h =
    let first = and_parts (is_lower_digit a) (is_lower_digit b && list_all is_lower_digit rest) h in
    let second = and_parts (is_lower_digit b) (list_all is_lower_digit rest) first.1 in
    let high = digit_value a first.0 in
    let low = digit_value b second.0 in
    let more = spelt-pairs rest (omega arith) second.1 in
    let front : (high.0 * 16 + low.0) / 16 ≡ high.0 = omega (arith, high.1, low.1) in
    let back : (high.0 * 16 + low.0) % 16 ≡ low.0 = omega (arith, high.1, low.1) in (
      (high.0 * 16 + low.0) ∷ more.0,
      bytes-cons (high.0 * 16 + low.0) more.0 (omega (arith, high.1, low.1)) more.1,
      rw (front, back, high.2, low.2, more.2) refl,
    )

-- the spelling of bytes is lower case digits
pub lower-spelt : (bytes : List ℕ) → IsBytes bytes → list_all is_lower_digit (encode_lower bytes) ≡ true
unfolding encode_with
lower-spelt [] fits = refl
lower-spelt (b ∷ bytes) fits =
    let small : b < 256 = fits 0 in
    let high = all_lower-at 16 (b / 16) refl (omega arith) in
    let low = all_lower-at 16 (b % 16) refl (omega arith) in
    rw (high, low) (lower-spelt bytes (λ i. fits (suc i)))

pub pairs-spelt : (b : ℕ) (bytes : List ℕ) → IsBytes (b ∷ bytes) → is_pairs (encode_lower (b ∷ bytes)) ≡ true
pairs-spelt b bytes fits =
    let long = length-encode_with lower_digits (b ∷ bytes) in
    let lower = lower-spelt (b ∷ bytes) fits in
    let some : (length (encode_lower (b ∷ bytes)) == 0) ≡ false = grind (arith, nat_tests) in
    let even : (length (encode_lower (b ∷ bytes)) % 2 == 0) ≡ true = eq-eqb (length (encode_lower (b ∷ bytes)) % 2) 0 (omega arith) in
    rw (some, even) lower

-- ---- one spelling

pub same_bytes : (a b : List ℕ) → IsBytes a → IsBytes b → encode_lower a ≡ encode_lower b → a ≡ b
same_bytes a b fa fb e =
    decode_of-same (encode_lower b) a b (subst (λ w. decode_of w ≡ Ok a) e (decode_of-encode_lower a fa)) (decode_of-encode_lower b fb)

pub encode-append : (xs ys : List ℕ) → encode_lower (xs ++ ys) ≡ encode_lower xs ++ encode_lower ys
unfolding encode_with
encode-append [] ys = refl
encode-append (x ∷ xs) ys = ap (λ t. slice_index lower_digits (x / 16) ∷ slice_index lower_digits (x % 16) ∷ t) (encode-append xs ys)

-- ---- a byte of two digits

pub one : (b : ℕ) → b < 256 → IsBytes (b ∷ [])
one b h = bytes-cons b [] h (λ i. omega arith)

decoded_one : (b : ℕ) {digits : List ℕ} → b < 256 → encode_lower (b ∷ []) ≡ digits → decode_sized digits 1 ≡ Ok (b ∷ [])
decoded_one b fits e = subst (λ d. decode_sized d 1 ≡ Ok (b ∷ [])) e (decode_sized-encode_lower (b ∷ []) 1 refl (one b fits))

abbrev pub Decodes : List ℕ → Result Unit FromHexError → List ℕ → Type 0
Decodes digits r out = MatchResult (decode_sized digits 1) (λ bytes. (r ≡ Ok tt) × (out ≡ bytes)) (λ e. r ≡ Err e)

pub decode-fails : (digits : List ℕ) {r : Result Unit FromHexError} (out : List ℕ) {f : FromHexError} → Decodes digits r out → r ≡ Err f
    → (b : ℕ) → b < 256 → encode_lower (b ∷ []) ≢ digits
decode-fails digits {r} out h fails b fits e =
    let read : (r ≡ Ok tt) × (out ≡ b ∷ []) = rw (decoded_one b fits e) at h in
    let bad = sym read.0 ∙ fails in cc

pub decode-gives : (digits : List ℕ) (r : Result Unit FromHexError) (out : List ℕ) → Decodes digits r out
    → encode_lower (slice_index out 0 ∷ []) ≢ digits
    → (b : ℕ) → b < 256 → encode_lower (b ∷ []) ≢ digits
decode-gives digits r out h differ b fits e =
    let read : (r ≡ Ok tt) × (out ≡ b ∷ []) = rw (decoded_one b fits e) at h in
    differ (rw read.1 e)

-- ---- whole words

pub not_pairs : (word : List ℕ) → is_pairs word ≡ false → word ≢ 45 ∷ [] → (bytes : List ℕ) → IsBytes bytes → hex_word bytes ≢ word
not_pairs word h apart [] fits e = apart (sym e)
not_pairs word h apart (b ∷ bytes) fits e = false≢true (sym h ∙ subst (λ w. is_pairs w ≡ true) e (pairs-spelt b bytes fits))

record Pairs (word : List ℕ) : Type 0 where
  some : word ≢ []
  even : length word % 2 ≡ 0
  lower : list_all is_lower_digit word ≡ true

pairs : (word : List ℕ) → is_pairs word ≡ true → Pairs word
pairs word h =
    let outer = and_parts (not (length word == 0) && (length word % 2 == 0)) (list_all is_lower_digit word) h in
    let inner = and_parts (not (length word == 0)) (length word % 2 == 0) outer.0 in
    record {
      some = λ e. false≢true (subst (λ w. not (length w == 0) ≡ true) e inner.0);
      even = eqb-true (length word % 2) 0 inner.1;
      lower = outer.1;
    }

spelt-some : (bytes : List ℕ) {word : List ℕ} → encode_lower bytes ≡ word → word ≢ [] → hex_word bytes ≡ word
unfolding encode_with
spelt-some [] e apart = absurd (apart (sym e))
spelt-some (b ∷ bytes) e apart = e

pub pairs-bytes : (word : List ℕ) → is_pairs word ≡ true → (bytes : List ℕ) × IsBytes bytes × (hex_word bytes ≡ word)
pairs-bytes word h =
    let p = pairs word h in
    let found = spelt-pairs word p.even p.lower in
    (found.0, found.1, spelt-some found.0 found.2 p.some)

pub decoded : (word found : List ℕ) → is_pairs word ≡ true → decode_of word ≡ Ok found → IsBytes found × (hex_word found ≡ word)
decoded word found h read =
    let p = pairs word h in
    let is = spelt-pairs word p.even p.lower in
    let same : is.0 ≡ found =
    decode_of-same word is.0 found (subst (λ w. decode_of w ≡ Ok is.0) is.2 (decode_of-encode_lower is.0 is.1)) read in
    subst (λ f. IsBytes f × (hex_word f ≡ word)) same (is.1, spelt-some is.0 is.2 p.some)

-- ---- writing

pub digits-none : (a : Option (List ℕ)) (bytes : List ℕ) → Appends a a (encode_lower (take 0 bytes))
unfolding encode_with
digits-none a bytes = Appends-none a

-- what a slice of n bytes from this place on is
abbrev pub piece_of : List ℕ → ℕ → ℕ → List ℕ
piece_of bytes at n = take (at + n - at) (drop at bytes)

front : (bytes : List ℕ) (at n : ℕ)
    → encode_lower (take at bytes) ++ encode_lower (piece_of bytes at n) ≡ encode_lower (take (at + n) bytes)
front bytes at n =
    let count : at + n - at ≡ n = omega arith in
    rw count (sym (encode-append (take at bytes) (take n (drop at bytes))) ∙ ap encode_lower (sym (take-add at n bytes)))

pub digits-more : (a b c : Option (List ℕ)) (bytes : List ℕ) (at n : ℕ) → Appends a b (encode_lower (take at bytes))
    → Appends b c (encode_lower (piece_of bytes at n))
    → Appends a c (encode_lower (take (at + n) bytes))
digits-more a b c bytes at n before next = subst (Appends a c) (front bytes at n) (Appends-trans a b c _ _ before next)

whole : (bytes : List ℕ) → 0 < length bytes → encode_lower bytes ≡ hex_word bytes
whole [] some = absurd (omega arith)
whole (b ∷ bytes) some = refl

pub digits-some : (a b c : Option (List ℕ)) (bytes : List ℕ) (at n : ℕ) → 0 < length bytes → Appends a b (encode_lower (take at bytes))
    → AppendsSome b c (encode_lower (piece_of bytes at n))
    → AppendsSome a c (hex_word bytes)
digits-some a b c bytes at n some before next =
    let all : (encode_lower (take at bytes) ++ encode_lower (piece_of bytes at n)) ++ encode_lower (drop (at + n) bytes) ≡ hex_word bytes =
    ap (λ t. t ++ encode_lower (drop (at + n) bytes)) (front bytes at n) ∙ sym (encode-append (take (at + n) bytes) (drop (at + n) bytes))
    ∙ ap encode_lower (take-append-drop (at + n) bytes) ∙ whole bytes some in
    subst (AppendsSome a c) all (some_front a c _ (encode_lower (drop (at + n) bytes)) (some_then a b c _ _ before next))
