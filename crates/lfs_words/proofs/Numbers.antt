-- A number has one word, which `parse` reads.
use Rattle.std.proofs.Common.{◌≡◌, ◌≢◌, ℕ, ◌^◌, ◌<◌, ◌≤◌, List, None, Result, Ok, Err, IfSome, length, get_or, refl, sym, ap, ◌∙◌, subst}
use Rattle.std.proofs.Common.{inl, inr, arith, decimal}
use Rattle.std.specs.Result.{OkIff, result_ok}
use Rattle.std.specs.Str.{IsUtf8}
use Rattle.std.specs.Str.Parse.{ParsesUnsigned, AllDigits, digits_value}
use Rattle.std.proofs.lemmas.Bool.{cases_lt}
use Rattle.std.proofs.lemmas.Str.{IsUtf8-from_ascii}
use Rattle.std.proofs.lemmas.Str.Parse.{IsNumeralModel, numerals_by_value, tells_digits, digit_at, parse_plain}
use Rattle.std.proofs.lemmas.Fmt.{IsAscii-decimal, decimal_nonempty, decimal_digit, first_decimal, digits_decimal, digits_value-decimal}
use Rattle.std.proofs.lemmas.Fmt.{decimal-digits_value, decimal_injective}
use Rattle.lfs_words.specs.Words.{IsBare}

own : IsNumeralModel (AllDigits 10) (digits_value 10)
own = numerals_by_value (AllDigits 10) tells_digits

no_plus : (n : ℕ) → n < 2 ^ 64 → get_or (decimal n) 0 0 ≢ 43
no_plus n fits e = let digit = digit_at (decimal n) 0 (digits_decimal own n fits) (decimal_nonempty n fits) in omega (arith, digit.0)

no_zero : (n : ℕ) → n < 2 ^ 64 → get_or (decimal n) 0 0 ≡ 48 → length (decimal n) ≡ 1
no_zero n fits e = elim (cases_lt 0 n) [
  | inl above ↦ let first = first_decimal n above fits in absurd (omega arith)
  | inr none ↦ let zero : n ≡ 0 = omega arith in rw (zero, decimal_digit 0 (omega arith)) refl
]

pub IsBare-decimal : (n : ℕ) → n < 2 ^ 64 → IsBare (decimal n)
IsBare-decimal n fits = (decimal_nonempty n fits, no_plus n fits, no_zero n fits)

pub not_bare : (word : List ℕ) → (IsBare word → ⊥) → (n : ℕ) → n < 2 ^ 64 → decimal n ≢ word
not_bare word h n fits e = h (subst IsBare e (IsBare-decimal n fits))

pub not_utf8 : (word : List ℕ) → (IsUtf8 word → ⊥) → (n : ℕ) → n < 2 ^ 64 → decimal n ≢ word
not_utf8 word h n fits e = h (subst IsUtf8 e (IsUtf8-from_ascii (decimal n) (IsAscii-decimal n fits)))

pub read-found : {E : Type 0} (word : List ℕ) (r : Result ℕ E) → IsBare word → ParsesUnsigned 64 10 word r
    → IfSome (result_ok r) (λ n. decimal n ≡ word)
read-found {E} word (Ok n) bare h =
    let is = parse_plain own {E = E} 64 word (Ok n) h bare.1 in
    rw is.1 (decimal-digits_value own word is.0.0 bare.0 bare.2 is.0.2)
read-found {E} word (Err e) bare h = tt

pub read-none : {E : Type 0} (word : List ℕ) (r : Result ℕ E) → IsBare word → ParsesUnsigned 64 10 word r → result_ok r ≡ None
    → (n : ℕ) → n < 2 ^ 64 → decimal n ≢ word
read-none {E} word (Ok m) bare h none n fits e = cc
read-none {E} word (Err f) bare h none n fits e =
    let not = parse_plain own {E = E} 64 word (Err f) h bare.1 in
    let digits = subst (AllDigits 10) e (digits_decimal own n fits) in
    let value : digits_value 10 word ≡ n = ap (digits_value 10) (sym e) ∙ digits_value-decimal own n fits in
    not (digits, bare.0, rw value fits)

pub small-none : {E : Type 0} (bound : ℕ) {word : List ℕ} (m : ℕ) (r : Result ℕ E) → bound ≤ 2 ^ 64 → m < 2 ^ 64 → decimal m ≡ word
    → OkIff r (m < bound) m → result_ok r ≡ None
    → (n : ℕ) → n < bound → decimal n ≢ word
small-none bound m (Ok k) small wide is h none n fits e = cc
small-none bound m (Err f) small wide is h none n fits e =
    let same : m ≡ n = decimal_injective m n wide (omega (arith, small, fits)) (is ∙ sym e) in
    h (rw same fits)
