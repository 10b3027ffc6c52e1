-- A word ends in a digit or in one letter, and then it has one front.
use Rattle.std.proofs.Common.{◌≡◌, ◌≢◌, ℕ, zero, suc, ◌^◌, ◌<◌, ◌≤◌, ◌+◌, ◌*◌, List, [], ◌∷◌, ◌++◌, Option, None, Some, IfSome, length}
use Rattle.std.proofs.Common.{get_or, refl, sym, ap, ◌∙◌, subst, arith, inl, inr, decimal}
use Rattle.std.specs.Str.Parse.{AllDigits, digits_value}
use Rattle.std.proofs.lemmas.Str.Parse.{IsNumeralModel, numerals_by_value, tells_digits, digit_at}
use Rattle.std.proofs.lemmas.Fmt.{decimal_injective, digits_decimal}
use Rattle.std.specs.Prelude.{SomeIff}
use Rattle.lfs_command.specs.Amounts.{IsAmount, IsCounted, IsTimes}

own : IsNumeralModel (AllDigits 10) (digits_value 10)
own = numerals_by_value (AllDigits 10) tells_digits

-- two words with a letter behind each
long : (xs : List ℕ) (a : ℕ) → length (xs ++ (a ∷ [])) ≡ length xs + 1
long [] a = refl
long (x ∷ xs) a = let more = long xs a in omega (arith, more)

last_at : (xs : List ℕ) (a : ℕ) → get_or (xs ++ (a ∷ [])) (length xs) 0 ≡ a
last_at [] a = refl
last_at (x ∷ xs) a = last_at xs a

snoc : (xs ys : List ℕ) (a b : ℕ) → xs ++ (a ∷ []) ≡ ys ++ (b ∷ []) → (xs ≡ ys) × (a ≡ b)
snoc [] [] a b e = (refl, cc)
snoc [] (y ∷ ys) a b e = let more = long ys b in let same = ap length e in absurd (omega (arith, more, same))
snoc (x ∷ xs) [] a b e = let more = long xs a in let same = ap length e in absurd (omega (arith, more, same))
snoc (x ∷ xs) (y ∷ ys) a b e =
    let heads : x ≡ y = cc in
    let tails : xs ++ (a ∷ []) ≡ ys ++ (b ∷ []) = cc in
    let rest = snoc xs ys a b tails in
    (rw (heads, rest.0) refl, rest.1)

le_times : (n unit : ℕ) → 0 < unit → n ≤ n * unit
le_times n zero some = absurd (omega (arith, some))
le_times n (suc unit) some = omega arith

-- one number alone has a spelling, so where its multiple is none there is no other
pub no_other : (n number : ℕ) {unit : ℕ} (r : Option ℕ) → 0 < unit → n < 2 ^ 64 → number * unit < 2 ^ 64 → decimal n ≡ decimal number
    → SomeIff r (n * unit < 2 ^ 64) (n * unit) → r ≡ None → ⊥
no_other n number {unit} None some fits small same out none =
    let few = le_times number unit some in
    let is : n ≡ number = decimal_injective n number fits (omega (arith, few, small)) same in
    out (subst (λ k. k * unit < 2 ^ 64) (sym is) small)
no_other n number (Some x) some fits small same out none = cc

-- ---- a letter behind a number

-- a word that ends in a letter that is no digit is no decimal number
not_decimal : {letter : ℕ} (digits : List ℕ) {word : List ℕ} → 57 < letter → word ≡ digits ++ (letter ∷ []) → (n : ℕ) → n < 2 ^ 64
    → decimal n ≢ word
not_decimal {letter} digits high last n fits e =
    let ends : decimal n ≡ digits ++ (letter ∷ []) = e ∙ last in
    let length_is : length (decimal n) ≡ length digits + 1 = ap length ends ∙ long digits letter in
    let digit = digit_at (decimal n) (length digits) (digits_decimal own n fits) (omega (arith, length_is)) in
    let there : get_or (decimal n) (length digits) 0 ≡ letter = rw ends (last_at digits letter) in
    omega (arith, digit.1, there, high)

-- one that ends in a letter ends in no other
one_letter : {letter other unit bytes : ℕ} (digits : List ℕ) {word : List ℕ} → (letter ≡ other → ⊥) → word ≡ digits ++ (letter ∷ [])
    → IsCounted other unit bytes word → ⊥
one_letter {letter} {other} digits differ last counted =
    differ (snoc digits counted.digits letter other (sym last ∙ counted.last)).1

-- and has one front
one_front : {letter unit bytes : ℕ} (digits : List ℕ) {word : List ℕ} → word ≡ digits ++ (letter ∷ [])
    → ((number : ℕ) → number * unit < 2 ^ 64 → decimal number ≢ digits) → bytes < 2 ^ 64 → IsCounted letter unit bytes word → ⊥
one_front {letter} {unit} {bytes} digits last none fits counted =
    let same = (snoc digits counted.digits letter letter (sym last ∙ counted.last)).0 in
    none counted.times.number (subst (λ n. n < 2 ^ 64) counted.times.is fits) (counted.times.spelt ∙ sym same)

counted : {letter unit bytes : ℕ} (digits : List ℕ) {word : List ℕ} → word ≡ digits ++ (letter ∷ []) → IsTimes unit bytes digits
    → IsCounted letter unit bytes word
counted digits last times = record { digits = digits; last = last; times = times }

-- ---- by each letter

pub found_k : (digits : List ℕ) {word : List ℕ} (r : Option ℕ) → word ≡ digits ++ (75 ∷ [])
    → IfSome r (λ bytes. IsTimes (2 ^ 10) bytes digits) → IfSome r (λ bytes. IsAmount bytes word)
found_k digits None last h = tt
found_k digits (Some bytes) last h = inr (inl (counted digits last h))

pub found_m : (digits : List ℕ) {word : List ℕ} (r : Option ℕ) → word ≡ digits ++ (77 ∷ [])
    → IfSome r (λ bytes. IsTimes (2 ^ 20) bytes digits) → IfSome r (λ bytes. IsAmount bytes word)
found_m digits None last h = tt
found_m digits (Some bytes) last h = inr (inr (inl (counted digits last h)))

pub found_g : (digits : List ℕ) {word : List ℕ} (r : Option ℕ) → word ≡ digits ++ (71 ∷ [])
    → IfSome r (λ bytes. IsTimes (2 ^ 30) bytes digits) → IfSome r (λ bytes. IsAmount bytes word)
found_g digits None last h = tt
found_g digits (Some bytes) last h = inr (inr (inr (counted digits last h)))

pub none_k : (digits : List ℕ) {word : List ℕ} → word ≡ digits ++ (75 ∷ [])
    → ((number : ℕ) → number * 2 ^ 10 < 2 ^ 64 → decimal number ≢ digits) → (bytes : ℕ) → bytes < 2 ^ 64
    → IsAmount bytes word → ⊥
none_k digits last none bytes fits (inl plain) = not_decimal digits (omega arith) last bytes fits plain
none_k digits last none bytes fits (inr (inl k)) = one_front digits last none fits k
none_k digits last none bytes fits (inr (inr (inl m))) = one_letter digits (λ e. omega (arith, e)) last m
none_k digits last none bytes fits (inr (inr (inr g))) = one_letter digits (λ e. omega (arith, e)) last g

pub none_m : (digits : List ℕ) {word : List ℕ} → word ≡ digits ++ (77 ∷ [])
    → ((number : ℕ) → number * 2 ^ 20 < 2 ^ 64 → decimal number ≢ digits) → (bytes : ℕ) → bytes < 2 ^ 64
    → IsAmount bytes word → ⊥
none_m digits last none bytes fits (inl plain) = not_decimal digits (omega arith) last bytes fits plain
none_m digits last none bytes fits (inr (inl k)) = one_letter digits (λ e. omega (arith, e)) last k
none_m digits last none bytes fits (inr (inr (inl m))) = one_front digits last none fits m
none_m digits last none bytes fits (inr (inr (inr g))) = one_letter digits (λ e. omega (arith, e)) last g

pub none_g : (digits : List ℕ) {word : List ℕ} → word ≡ digits ++ (71 ∷ [])
    → ((number : ℕ) → number * 2 ^ 30 < 2 ^ 64 → decimal number ≢ digits) → (bytes : ℕ) → bytes < 2 ^ 64
    → IsAmount bytes word → ⊥
none_g digits last none bytes fits (inl plain) = not_decimal digits (omega arith) last bytes fits plain
none_g digits last none bytes fits (inr (inl k)) = one_letter digits (λ e. omega (arith, e)) last k
none_g digits last none bytes fits (inr (inr (inl m))) = one_letter digits (λ e. omega (arith, e)) last m
none_g digits last none bytes fits (inr (inr (inr g))) = one_front digits last none fits g
