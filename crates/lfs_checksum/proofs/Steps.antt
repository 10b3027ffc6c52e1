-- A step goes through xor, so a register comes to what its low bits come to, xor its high bits.
use Rattle.std.proofs.Common.{◌≡◌, ℕ, zero, suc, ◌+◌, ◌*◌, ◌/◌, ◌%◌, ◌^◌, ◌<◌, ◌⊎◌, inl, inr, bit_and, bit_xor}
use Rattle.std.proofs.Common.{refl, sym, ap, ap₂, ◌∙◌, arith, add-zero, mod-lt, mul_assoc, pow-suc, pow_pos}
use Rattle.std.proofs.lemmas.Nat.{xor_shr, xor_mod, xor_comm, and_mask, shr_split, xor_block}
use Rattle.std.specs.Int.Bits.{xor_assoc, xor_zero_r}
use Rattle.lfs_checksum.specs.Division.{polynomial, step_bit, steps, step_byte}

lowest_bit : (d : ℕ) → d < 2 → (d ≡ 0) ⊎ (d ≡ 1)
lowest_bit zero h = inl refl
lowest_bit (suc zero) h = inr refl
lowest_bit (suc (suc d)) h = absurd (omega arith)

pub bit_cases : (n : ℕ) → (n % 2 ≡ 0) ⊎ (n % 2 ≡ 1)
bit_cases n = lowest_bit (n % 2) (omega arith)

pub step_even : (r : ℕ) → r % 2 ≡ 0 → step_bit r ≡ r / 2
unfolding step_bit
step_even r even = rw even refl

pub step_odd : (r : ℕ) → r % 2 ≡ 1 → step_bit r ≡ bit_xor (r / 2) polynomial
unfolding step_bit
step_odd r odd = rw odd refl

-- of four numbers under xor the two in the middle change places
xor_middle : (a p b q : ℕ) → bit_xor (bit_xor a p) (bit_xor b q) ≡ bit_xor (bit_xor a b) (bit_xor p q)
xor_middle a p b q =
    xor_assoc a p (bit_xor b q)
    ∙ ap (bit_xor a) (sym (xor_assoc p b q) ∙ ap (λ x. bit_xor x q) (xor_comm p b) ∙ xor_assoc b p q)
    ∙ sym (xor_assoc a b (bit_xor p q))

-- what is taken off at a lowest bit
unfoldable pub taken : ℕ → ℕ
taken zero = 0
taken (suc d) = polynomial

pub step_is : (r : ℕ) → step_bit r ≡ bit_xor (r / 2) (taken (r % 2))
unfolding taken
step_is r =
    elim (bit_cases r) [
      | inl even ↦ step_even r even ∙ sym (ap (λ d. bit_xor (r / 2) (taken d)) even ∙ xor_zero_r (r / 2))
      | inr odd ↦ step_odd r odd ∙ sym (ap (λ d. bit_xor (r / 2) (taken d)) odd)
    ]

taken_xor : (a b : ℕ) → (a ≡ 0) ⊎ (a ≡ 1) → (b ≡ 0) ⊎ (b ≡ 1) → taken (bit_xor a b) ≡ bit_xor (taken a) (taken b)
unfolding taken
taken_xor a b (inl p) (inl q) = rw (p, q) refl
taken_xor a b (inl p) (inr q) = rw (p, q) refl
taken_xor a b (inr p) (inl q) = rw (p, q) refl
taken_xor a b (inr p) (inr q) = rw (p, q) refl

pub step_xor : (x y : ℕ) → step_bit (bit_xor x y) ≡ bit_xor (step_bit x) (step_bit y)
step_xor x y =
    step_is (bit_xor x y)
    ∙ ap₂ (λ h d. bit_xor h (taken d)) (xor_shr x y 1) (xor_mod x y 1)
    ∙ ap (bit_xor (bit_xor (x / 2) (y / 2))) (taken_xor (x % 2) (y % 2) (bit_cases x) (bit_cases y))
    ∙ xor_middle (x / 2) (y / 2) (taken (x % 2)) (taken (y % 2))
    ∙ sym (ap₂ bit_xor (step_is x) (step_is y))

pub steps_xor : (n x y : ℕ) → steps n (bit_xor x y) ≡ bit_xor (steps n x) (steps n y)
unfolding steps
steps_xor zero x y = refl
steps_xor (suc n) x y = ap (steps n) (step_xor x y) ∙ steps_xor n (step_bit x) (step_bit y)

-- bits from the n-th on come down n places in n steps
pub steps_high : (n q : ℕ) → steps n (q * 2 ^ n) ≡ q
unfolding steps
steps_high zero q = omega arith
steps_high (suc n) q =
    let twice : 2 ^ suc n ≡ 2 ^ n * 2 = pow-suc 2 n in
    let whole : q * 2 ^ suc n ≡ q * 2 ^ n * 2 = ap (λ x. q * x) twice ∙ sym (mul_assoc q (2 ^ n) 2) in
    let even : q * 2 ^ n * 2 % 2 ≡ 0 = omega arith in
    let half : q * 2 ^ n * 2 / 2 ≡ q * 2 ^ n = omega arith in
    ap (λ x. steps n (step_bit x)) whole ∙ ap (steps n) (step_even _ even ∙ half) ∙ steps_high n q

pub low_high : (n q l : ℕ) → l < 2 ^ n → bit_xor l (q * 2 ^ n) ≡ q * 2 ^ n + l
low_high n q l low =
    let alone : l ≡ 0 * 2 ^ n + l = omega arith in
    xor_comm l (q * 2 ^ n)
    ∙ ap₂ bit_xor (sym (add-zero (q * 2 ^ n))) alone
    ∙ xor_block n q 0 0 l (pow_pos n) low
    ∙ ap (λ x. x * 2 ^ n + l) (xor_zero_r q)

-- n steps are those of the low n bits, xor the other bits
pub steps_low : (n r : ℕ) → steps n r ≡ bit_xor (steps n (r % 2 ^ n)) (r / 2 ^ n)
steps_low n r =
    let low : r % 2 ^ n < 2 ^ n = mod-lt r (pow_pos n) in
    ap (steps n) (sym (low_high n (r / 2 ^ n) (r % 2 ^ n) low ∙ shr_split r n))
    ∙ steps_xor n (r % 2 ^ n) (r / 2 ^ n * 2 ^ n)
    ∙ ap (bit_xor (steps n (r % 2 ^ n))) (steps_high n (r / 2 ^ n))

-- a step of a byte as the table has it
pub byte_step : (r b : ℕ) → b < 256 → bit_xor (steps 8 (bit_and (bit_xor r b) 255)) (r / 2 ^ 8) ≡ step_byte r b
unfolding step_byte
byte_step r b small =
    let above : b / 2 ^ 8 ≡ 0 = omega arith in
    let high : bit_xor r b / 2 ^ 8 ≡ r / 2 ^ 8 = xor_shr r b 8 ∙ ap (bit_xor (r / 2 ^ 8)) above ∙ xor_zero_r (r / 2 ^ 8) in
    sym (steps_low 8 (bit_xor r b) ∙ ap₂ (λ l h. bit_xor (steps 8 l) h) (sym (and_mask (bit_xor r b) 8)) high)
