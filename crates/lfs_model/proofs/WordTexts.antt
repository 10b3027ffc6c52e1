-- Words have no space, and one value each.
use Rattle.std.proofs.Common.{◌≡◌, ◌≢◌, refl, sym, ap, ◌∙◌, arith, ℕ, ◌+◌, ◌/◌, ◌%◌, ◌<◌, ◌≤◌, ◌^◌, Bool, true, false, not, ◌&&◌, ◌==◌}
use Rattle.std.proofs.Common.{nat_lt, nat_le, List, [], ◌∷◌, ◌++◌, flat_map, decimal, inl, inr}
use Rattle.std.specs.Str.Parse.{AllDigits}
use Rattle.std.proofs.lemmas.Bool.{and_parts, cases_lt}
use Rattle.std.proofs.lemmas.Bool.Decides.{nat_tests}
use Rattle.std.proofs.lemmas.Str.Parse.{digit_from_value}
use Rattle.std.proofs.lemmas.Fmt.{decimal_is_IsNumeral}
use Rattle.lfs_model.specs.Script.{hex, hex_byte, hex_digit, line_of, word, word_byte}

-- ---- words without spaces

abbrev pub is_solid : List ℕ → Bool
is_solid [] = true
is_solid (c ∷ w) = not (c == 32) && is_solid w

abbrev pub all_solid : List (List ℕ) → Bool
all_solid [] = true
all_solid (w ∷ ws) = is_solid w && all_solid ws

not_space : (c : ℕ) → not (c == 32) ≡ true → c ≢ 32
not_space c h = grind (arith, nat_tests)

front : (w v r s : List ℕ) → is_solid w ≡ true → is_solid v ≡ true → w ++ 32 ∷ r ≡ v ++ 32 ∷ s → (w ≡ v) × (r ≡ s)
front [] [] r s hw hv e = (refl, cc)
front [] (y ∷ v) r s hw hv e = let parts = and_parts (not (y == 32)) (is_solid v) hv in let at : y ≡ 32 = cc in
    absurd (not_space y parts.0 at)
front (x ∷ w) [] r s hw hv e = let parts = and_parts (not (x == 32)) (is_solid w) hw in let at : x ≡ 32 = cc in
    absurd (not_space x parts.0 at)
front (x ∷ w) (y ∷ v) r s hw hv e =
    let first : x ≡ y = cc in
    let rest : w ++ 32 ∷ r ≡ v ++ 32 ∷ s = cc in
    let more = front w v r s (and_parts (not (x == 32)) (is_solid w) hw).1 (and_parts (not (y == 32)) (is_solid v) hv).1 rest in
    let tail : w ≡ v = more.0 in
    (cc, more.1)

no_space : (w v s : List ℕ) → is_solid w ≡ true → w ≡ v ++ 32 ∷ s → ⊥
no_space [] [] s h e = cc
no_space [] (y ∷ v) s h e = cc
no_space (x ∷ w) [] s h e = let parts = and_parts (not (x == 32)) (is_solid w) h in let at : x ≡ 32 = cc in not_space x parts.0 at
no_space (x ∷ w) (y ∷ v) s h e = let rest : w ≡ v ++ 32 ∷ s = cc in no_space w v s (and_parts (not (x == 32)) (is_solid w) h).1 rest

-- a text has one cut into such words
pub same_words : (w v : List ℕ) (ws vs : List (List ℕ)) → all_solid (w ∷ ws) ≡ true → all_solid (v ∷ vs) ≡ true
    → line_of w ws ≡ line_of v vs → (w ≡ v) × (ws ≡ vs)
same_words w v [] [] hw hv e = (e, refl)
same_words w v [] (y ∷ vs) hw hv e = absurd (no_space w v (line_of y vs) (and_parts (is_solid w) true hw).0 e)
same_words w v (x ∷ ws) [] hw hv e = absurd (no_space v w (line_of x ws) (and_parts (is_solid v) true hv).0 (sym e))
same_words w v (x ∷ ws) (y ∷ vs) hw hv e =
    let pw = and_parts (is_solid w) (all_solid (x ∷ ws)) hw in
    let pv = and_parts (is_solid v) (all_solid (y ∷ vs)) hv in
    let both = front w v (line_of x ws) (line_of y vs) pw.0 pv.0 e in
    let more = same_words x y ws vs pw.1 pv.1 both.1 in
    let head : x ≡ y = more.0 in
    let tail : ws ≡ vs = more.1 in
    (both.0, cc)

-- ---- numbers

apart_space : (c : ℕ) → c ≢ 32 → not (c == 32) ≡ true
apart_space c h = grind (arith, nat_tests)

digits_solid : (w : List ℕ) → AllDigits 10 w → is_solid w ≡ true
digits_solid [] h = refl
digits_solid (c ∷ w) h = let digit = digit_from_value c h.0 in rw (apart_space c (λ e. omega (arith, digit.0))) (digits_solid w h.1)

pub solid-decimal : (n : ℕ) → n < 2 ^ 64 → is_solid (decimal n) ≡ true
solid-decimal n fits = digits_solid (decimal n) (decimal_is_IsNumeral n fits).0.1

-- ---- hexadecimal digits

digit_low : (n : ℕ) → n < 10 → hex_digit n ≡ 48 + n
digit_low n lt = let is : nat_lt n 10 ≡ true = grind (arith, nat_tests) in rw is refl

digit_high : (n : ℕ) → 10 ≤ n → hex_digit n ≡ 87 + n
digit_high n le = let is : nat_lt n 10 ≡ false = grind (arith, nat_tests) in rw is refl

digit_least : (n : ℕ) → 48 ≤ hex_digit n
digit_least n = elim (cases_lt n 10) as (λ _. 48 ≤ hex_digit n) [
  | inl low ↦ let is = digit_low n low in omega arith
  | inr high ↦ let is = digit_high n high in omega arith
]

digit_once : (m n : ℕ) → hex_digit m ≡ hex_digit n → m ≡ n
digit_once m n e = elim (cases_lt m 10) as (λ _. m ≡ n) [
  | inl a ↦ elim (cases_lt n 10) as (λ _. m ≡ n) [
    | inl b ↦ let p = digit_low m a in let q = digit_low n b in omega arith
    | inr b ↦ let p = digit_low m a in let q = digit_high n b in absurd (omega arith)
  ]
  | inr a ↦ elim (cases_lt n 10) as (λ _. m ≡ n) [
    | inl b ↦ let p = digit_high m a in let q = digit_low n b in absurd (omega arith)
    | inr b ↦ let p = digit_high m a in let q = digit_high n b in omega arith
  ]
]

byte_once : (b c : ℕ) → hex_digit (b / 16) ≡ hex_digit (c / 16) → hex_digit (b % 16) ≡ hex_digit (c % 16) → b ≡ c
byte_once b c high low = let h = digit_once (b / 16) (c / 16) high in let l = digit_once (b % 16) (c % 16) low in omega arith

solid_digit : (n : ℕ) → not (hex_digit n == 32) ≡ true
solid_digit n = apart_space (hex_digit n) (λ e. let least_is = digit_least n in omega arith)

solid_pairs : (bytes : List ℕ) → is_solid (flat_map hex_byte bytes) ≡ true
solid_pairs [] = refl
solid_pairs (b ∷ bytes) = rw (solid_digit (b / 16), solid_digit (b % 16)) (solid_pairs bytes)

pub solid-hex : (bytes : List ℕ) → is_solid (hex bytes) ≡ true
solid-hex [] = refl
solid-hex (b ∷ bytes) = solid_pairs (b ∷ bytes)

pairs_once : (a b : List ℕ) → flat_map hex_byte a ≡ flat_map hex_byte b → a ≡ b
pairs_once [] [] e = refl
pairs_once [] (c ∷ b) e = cc
pairs_once (c ∷ a) [] e = cc
pairs_once (c ∷ a) (d ∷ b) e =
    let high : hex_digit (c / 16) ≡ hex_digit (d / 16) = cc in
    let low : hex_digit (c % 16) ≡ hex_digit (d % 16) = cc in
    let rest : flat_map hex_byte a ≡ flat_map hex_byte b = cc in
    let first = byte_once c d high low in
    let tail = pairs_once a b rest in
    cc

no_dash : (c : ℕ) (rest : List ℕ) → 45 ∷ [] ≡ hex_digit (c / 16) ∷ rest → ⊥
no_dash c rest e = let least_is = digit_least (c / 16) in let at : 45 ≡ hex_digit (c / 16) = cc in omega arith

pub hex_once : (a b : List ℕ) → hex a ≡ hex b → a ≡ b
hex_once [] [] e = refl
hex_once [] (c ∷ b) e = absurd (no_dash c _ e)
hex_once (c ∷ a) [] e = absurd (no_dash c _ (sym e))
hex_once (c ∷ a) (d ∷ b) e = pairs_once (c ∷ a) (d ∷ b) e

-- ---- escaped words

abbrev is_plain : ℕ → Bool
is_plain c = nat_le 33 c && nat_le c 126 && not (c == 92)

plain_byte : (c : ℕ) → is_plain c ≡ true → word_byte c ≡ c ∷ []
plain_byte c h = rw h refl

other_byte : (c : ℕ) → is_plain c ≡ false → word_byte c ≡ 92 ∷ hex_digit (c / 16) ∷ hex_digit (c % 16) ∷ []
other_byte c h = rw h refl

either : (c : ℕ) {P : Type 0} → (is_plain c ≡ true → P) → (is_plain c ≡ false → P) → P
either c {P} f g = elim (is_plain c) as (λ b. is_plain c ≡ b → P) [ true ↦ f | false ↦ g ] refl

plain_apart : (c : ℕ) → is_plain c ≡ true → (c ≢ 32) × (c ≢ 92)
plain_apart c h = (grind (arith, nat_tests), grind (arith, nat_tests))

solid_escaped : (bytes : List ℕ) → is_solid (flat_map word_byte bytes) ≡ true
solid_escaped [] = refl
solid_escaped (b ∷ bytes) = either b
    (λ p. ap (λ t. is_solid (t ++ flat_map word_byte bytes)) (plain_byte b p)
    ∙ rw (apart_space b (plain_apart b p).0) (solid_escaped bytes))
    (λ p. ap (λ t. is_solid (t ++ flat_map word_byte bytes)) (other_byte b p)
    ∙ rw (solid_digit (b / 16), solid_digit (b % 16)) (solid_escaped bytes))

pub solid-word : (bytes : List ℕ) → is_solid (word bytes) ≡ true
solid-word [] = refl
solid-word (b ∷ bytes) = solid_escaped (b ∷ bytes)

-- a byte's spelling, and what is behind it
byte_then : (c d : ℕ) (r s : List ℕ) → word_byte c ++ r ≡ word_byte d ++ s → (c ≡ d) × (r ≡ s)
byte_then c d r s e = either c
    (λ pc. either d
    (λ pd. let text : c ∷ r ≡ d ∷ s = ap (λ t. t ++ r) (sym (plain_byte c pc)) ∙ e ∙ ap (λ t. t ++ s) (plain_byte d pd) in (cc, cc))
    (λ pd. absurd (let text : c ∷ r ≡ 92 ∷ hex_digit (d / 16) ∷ hex_digit (d % 16) ∷ s = ap (λ t. t ++ r) (sym (plain_byte c pc)) ∙ e
    ∙ ap (λ t. t ++ s) (other_byte d pd) in (plain_apart c pc).1 (cc))))
    (λ pc. either d
    (λ pd. absurd (let text : d ∷ s ≡ 92 ∷ hex_digit (c / 16) ∷ hex_digit (c % 16) ∷ r = ap (λ t. t ++ s) (sym (plain_byte d pd)) ∙ sym e
    ∙ ap (λ t. t ++ r) (other_byte c pc) in (plain_apart d pd).1 (cc)))
    (λ pd.
    let text : 92 ∷ hex_digit (c / 16) ∷ hex_digit (c % 16) ∷ r ≡ 92 ∷ hex_digit (d / 16) ∷ hex_digit (d % 16) ∷ s =
    ap (λ t. t ++ r) (sym (other_byte c pc)) ∙ e ∙ ap (λ t. t ++ s) (other_byte d pd) in
    (byte_once c d (cc) (cc), cc)))

some_byte : (c : ℕ) (r : List ℕ) → word_byte c ++ r ≡ [] → ⊥
some_byte c r e = either c
    (λ p. let text : c ∷ r ≡ [] = ap (λ t. t ++ r) (sym (plain_byte c p)) ∙ e in cc)
    (λ p. let text : 92 ∷ hex_digit (c / 16) ∷ hex_digit (c % 16) ∷ r ≡ [] = ap (λ t. t ++ r) (sym (other_byte c p)) ∙ e in cc)

escaped_once : (a b : List ℕ) → flat_map word_byte a ≡ flat_map word_byte b → a ≡ b
escaped_once [] [] e = refl
escaped_once [] (c ∷ b) e = absurd (some_byte c (flat_map word_byte b) (sym e))
escaped_once (c ∷ a) [] e = absurd (some_byte c (flat_map word_byte a) e)
escaped_once (c ∷ a) (d ∷ b) e =
    let both = byte_then c d (flat_map word_byte a) (flat_map word_byte b) e in
    let first = both.0 in
    let tail = escaped_once a b both.1 in
    cc

-- a backslash alone is no byte's spelling
no_backslash : (c : ℕ) (r : List ℕ) → 92 ∷ [] ≡ word_byte c ++ r → ⊥
no_backslash c r e = either c
    (λ p. let text : 92 ∷ [] ≡ c ∷ r = e ∙ ap (λ t. t ++ r) (plain_byte c p) in (plain_apart c p).1 (cc))
    (λ p. let text : 92 ∷ [] ≡ 92 ∷ hex_digit (c / 16) ∷ hex_digit (c % 16) ∷ r = e ∙ ap (λ t. t ++ r) (other_byte c p) in cc)

pub word_once : (a b : List ℕ) → word a ≡ word b → a ≡ b
word_once [] [] e = refl
word_once [] (c ∷ b) e = absurd (no_backslash c (flat_map word_byte b) e)
word_once (c ∷ a) [] e = absurd (no_backslash c (flat_map word_byte a) (sym e))
word_once (c ∷ a) (d ∷ b) e = escaped_once (c ∷ a) (d ∷ b) e
