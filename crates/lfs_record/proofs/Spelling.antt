-- The name of a number and a day has them.
use Rattle.std.proofs.Common.{◌≡◌, ◌<◌, ◌≤◌, ℕ, ◌+◌, ◌-◌, ◌*◌, ◌/◌, ◌%◌, Bool, true, List, [], ◌∷◌, ◌++◌, refl, ap, ◌∙◌, arith}
use Rattle.std.specs.Prelude.{◌&&◌, codes, map, nat_le}
use Rattle.std.specs.List.{AllByRecursion}
use Rattle.std.proofs.lemmas.Bool.Decides.{nat_tests}
use Rattle.lfs_record.specs.Names.{digit, eight_digits, fits, is_day, is_digit, is_name, name_of, number_of, value}

digit_is : (unit n : ℕ) → is_digit (digit unit n) ≡ true
digit_is unit n = by (n / unit % 10) (below (n / unit))
  where
    below : (q : ℕ) → q % 10 < 10
    below q = omega arith

    by : (d : ℕ) → d < 10 → is_digit (48 + d) ≡ true
    by d low =
        let a : nat_le 48 (48 + d) ≡ true = grind (arith, nat_tests) in
        let b : nat_le (48 + d) 57 ≡ true = grind (arith, nat_tests) in
        ap (λ (x : Bool). x && nat_le (48 + d) 57) a ∙ b

-- digits are like zeros
digits_fit : (digits pattern text : List ℕ) → AllByRecursion (λ d. is_digit d ≡ true) digits
    → fits (map (λ _. 48) digits ++ pattern) (digits ++ text) ≡ fits pattern text
digits_fit [] pattern text all = refl
digits_fit (d ∷ digits) pattern text all =
    ap (λ (x : Bool). x && fits (map (λ _. 48) digits ++ pattern) (digits ++ text)) all.0 ∙ digits_fit digits pattern text all.1

module _ (n : ℕ) (day : List ℕ) where
  pub name_made : is_day day ≡ true → is_name (name_of n day) ≡ true
  name_made is =
      digits_fit (eight_digits n) (codes "-0000-00-00") (45 ∷ day) (
        digit_is 10000000 n,
        (
          digit_is 1000000 n,
          (
            digit_is 100000 n,
            (
              digit_is 10000 n,
              (
                digit_is 1000 n,
                (
                  digit_is 100 n,
                  (
                    digit_is 10 n,
                    (digit_is 1 n, tt),
                  ),
                ),
              ),
            ),
          ),
        ),
      )
      ∙ is

  pub number_made : n ≤ 99999999 → number_of (name_of n day) ≡ n
  number_made low =
      let a : 10 * 0 + (digit 10000000 n - 48) ≡ n / 10000000 = omega (arith, low) in
      let b : 10 * (n / 10000000) + (digit 1000000 n - 48) ≡ n / 1000000 = omega arith in
      let c : 10 * (n / 1000000) + (digit 100000 n - 48) ≡ n / 100000 = omega arith in
      let d : 10 * (n / 100000) + (digit 10000 n - 48) ≡ n / 10000 = omega arith in
      let e : 10 * (n / 10000) + (digit 1000 n - 48) ≡ n / 1000 = omega arith in
      let f : 10 * (n / 1000) + (digit 100 n - 48) ≡ n / 100 = omega arith in
      let g : 10 * (n / 100) + (digit 10 n - 48) ≡ n / 10 = omega arith in
      let h : 10 * (n / 10) + (digit 1 n - 48) ≡ n = omega arith in
      ap (λ (v : ℕ). value v (digit 1000000 n ∷ digit 100000 n ∷ digit 10000 n ∷ digit 1000 n ∷ digit 100 n ∷ digit 10 n ∷ digit 1 n ∷
      [])) a
      ∙ ap (λ (v : ℕ). value v (digit 100000 n ∷ digit 10000 n ∷ digit 1000 n ∷ digit 100 n ∷ digit 10 n ∷ digit 1 n ∷ [])) b
      ∙ ap (λ (v : ℕ). value v (digit 10000 n ∷ digit 1000 n ∷ digit 100 n ∷ digit 10 n ∷ digit 1 n ∷ [])) c
      ∙ ap (λ (v : ℕ). value v (digit 1000 n ∷ digit 100 n ∷ digit 10 n ∷ digit 1 n ∷ [])) d
      ∙ ap (λ (v : ℕ). value v (digit 100 n ∷ digit 10 n ∷ digit 1 n ∷ [])) e
      ∙ ap (λ (v : ℕ). value v (digit 10 n ∷ digit 1 n ∷ [])) f
      ∙ ap (λ (v : ℕ). value v (digit 1 n ∷ [])) g
      ∙ h
