-- The division bit by bit: what a register comes to behind a list of bits.
use Rattle.std.proofs.Common.{◌≡◌, ℕ, zero, suc, ◌+◌, ◌*◌, ◌/◌, ◌%◌, ◌^◌, ◌<◌, List, [], ◌∷◌, ◌++◌, fold, bit_xor}
use Rattle.std.proofs.Common.{refl, sym, ap, ◌∙◌, arith, pow-suc}
use Rattle.std.specs.Int.Bits.{xor_assoc, xor_zero_r}
use Rattle.lfs_checksum.specs.Division.{step_bit, steps, step_byte}
use Rattle.lfs_checksum.specs.Bursts.{AreBytes, low_bits, bits_of}
use Rattle.lfs_checksum.proofs.Steps.{step_even, step_xor, low_high}

abbrev pub AreBits : List ℕ → Type 0
AreBits [] = Unit {0}
AreBits (d ∷ ds) = (d < 2) × AreBits ds

bits-append : (xs ys : List ℕ) → AreBits xs → AreBits ys → AreBits (xs ++ ys)
bits-append [] ys h k = k
bits-append (x ∷ xs) ys h k = (h.0, bits-append xs ys h.1 k)

pub bits-first : (xs ys : List ℕ) → AreBits (xs ++ ys) → AreBits xs
bits-first [] ys h = tt
bits-first (x ∷ xs) ys h = (h.0, bits-first xs ys h.1)

pub bits-rest : (xs ys : List ℕ) → AreBits (xs ++ ys) → AreBits ys
bits-rest [] ys h = h
bits-rest (x ∷ xs) ys h = bits-rest xs ys h.1

low_bits_are : (n k : ℕ) → AreBits (low_bits n k)
unfolding low_bits
low_bits_are zero k = tt
low_bits_are (suc n) k = (omega arith, low_bits_are n (k / 2))

pub bits_of_are : (bytes : List ℕ) → AreBits (bits_of bytes)
unfolding bits_of
bits_of_are [] = tt
bits_of_are (b ∷ bytes) = bits-append (low_bits 8 b) (bits_of bytes) (low_bits_are 8 b) (bits_of_are bytes)

unfoldable pub run : ℕ → List ℕ → ℕ
run r [] = r
run r (d ∷ ds) = run (step_bit (bit_xor r d)) ds

pub run-append : (r : ℕ) (xs ys : List ℕ) → run r (xs ++ ys) ≡ run (run r xs) ys
unfolding run
run-append r [] ys = refl
run-append r (x ∷ xs) ys = run-append (step_bit (bit_xor r x)) xs ys

-- the bits above the lowest come down one place in a step
step_rest : (r n : ℕ) → bit_xor (step_bit (bit_xor r (n % 2))) (n / 2) ≡ step_bit (bit_xor r n)
step_rest r n =
    let two : n / 2 * 2 + n % 2 ≡ n = omega arith in
    let parts : bit_xor (n % 2) (n / 2 * 2) ≡ n = low_high 1 (n / 2) (n % 2) (omega arith) ∙ two in
    let half : n / 2 * 2 / 2 ≡ n / 2 = omega arith in
    let down : step_bit (n / 2 * 2) ≡ n / 2 = step_even (n / 2 * 2) (omega arith) ∙ half in
    ap (bit_xor (step_bit (bit_xor r (n % 2)))) (sym down)
    ∙ sym (step_xor (bit_xor r (n % 2)) (n / 2 * 2))
    ∙ ap step_bit (xor_assoc r (n % 2) (n / 2 * 2) ∙ ap (bit_xor r) parts)

pub run_low_bits : (k r n : ℕ) → n < 2 ^ k → run r (low_bits k n) ≡ steps k (bit_xor r n)
unfolding run low_bits steps
run_low_bits zero r n low = let none : n ≡ 0 = omega arith in sym (ap (bit_xor r) none ∙ xor_zero_r r)
run_low_bits (suc k) r n low =
    run_low_bits k (step_bit (bit_xor r (n % 2))) (n / 2) (omega (arith, pow-suc 2 k)) ∙ ap (steps k) (step_rest r n)

pub run_bytes : (r : ℕ) (bytes : List ℕ) → AreBytes bytes → fold step_byte r bytes ≡ run r (bits_of bytes)
unfolding bits_of run step_byte
run_bytes r [] h = refl
run_bytes r (b ∷ bytes) h =
    run_bytes (step_byte r b) bytes (λ i. h (suc i))
    ∙ ap (λ s. run s (bits_of bytes)) (sym (run_low_bits 8 r b (h 0)))
    ∙ sym (run-append r (low_bits 8 b) (bits_of bytes))
