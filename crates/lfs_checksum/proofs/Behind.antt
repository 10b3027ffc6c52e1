-- A message with its sum behind it leaves one register, whatever the message is.
use Rattle.std.proofs.Common.{◌≡◌, ℕ, zero, suc, ◌+◌, ◌-◌, ◌/◌, ◌%◌, ◌^◌, ◌<◌, List, [], ◌∷◌, ◌++◌, length, take, fold, bit_xor}
use Rattle.std.proofs.Common.{refl, sym, ap, ap₂, ◌∙◌, arith, lit<, add-one, one-add, zero-add, suc-add, div-one, append-nil, length-append}
use Rattle.std.proofs.Math.Seq.{take-append_seam}
use Rattle.std.proofs.lemmas.Nat.{shr-shr, field_of, mod-pow-add, and-not, xor_comm}
use Rattle.std.proofs.lemmas.List.Sums.{fold-append}
use Rattle.std.specs.Int.Bits.{and_self, xor_add_and}
use Rattle.std.specs.Int.{w32, to_le_bytes}
use Rattle.lfs_checksum.specs.Division.{all_ones, step_bit, steps, step_byte, crc32c_of}
use Rattle.lfs_checksum.specs.Bursts.{AreBytes, low_bits, bits_of, with_sum, SumBehindIsFixed, BurstsAreSeen}
use Rattle.lfs_checksum.proofs.Bits.{bits_of_are, run, run_low_bits, run_bytes}
use Rattle.lfs_checksum.proofs.Registers.{run_fits}
use Rattle.lfs_checksum.proofs.Bursts.{burst_told}

low_bits-add : (j k n : ℕ) → low_bits (j + k) n ≡ low_bits j (n % 2 ^ j) ++ low_bits k (n / 2 ^ j)
unfolding low_bits
low_bits-add zero k n = ap₂ low_bits (zero-add k) (sym (div-one n))
low_bits-add (suc j) k n =
    let low : n % 2 ^ suc j % 2 ≡ n % 2 = rw (← add-one j) (omega (arith, mod-pow-add n j 1)) in
    let mid : n % 2 ^ suc j / 2 ≡ n / 2 % 2 ^ j = rw (← add-one j) (field_of n j 1) in
    let high : n / 2 ^ suc j ≡ n / 2 / 2 ^ j = rw (← one-add j) (sym (shr-shr n 1 j)) in
    ap (λ m. low_bits m n) (suc-add j k)
    ∙ ap (λ xs. n % 2 ∷ xs) (low_bits-add j k (n / 2))
    ∙ sym (rw (low, mid, high) refl)

-- a register and its complement have each bit in one of them
complement_xor : (r : ℕ) → r < 2 ^ 32 → bit_xor r (2 ^ 32 - 1 - r) ≡ 2 ^ 32 - 1
complement_xor r fits =
    let apart = and-not 32 r r fits fits in
    let itself = and_self r in
    let sum = xor_add_and (2 ^ 32 - 1 - r) r in
    xor_comm r (2 ^ 32 - 1 - r) ∙ omega arith

four_bytes : (c : ℕ) → c < 2 ^ 32 → bits_of (to_le_bytes w32 c) ≡ low_bits 32 c
unfolding bits_of
four_bytes c fits =
    let second : c / 256 / 256 ≡ c / 65536 = omega arith in
    let last : c / 256 / 256 / 256 ≡ c / 16777216 % 256 = omega arith in
    sym (
    low_bits-add 8 24 c
    ∙ ap (λ xs. low_bits 8 (c % 256) ++ xs) (low_bits-add 8 16 (c / 256)
    ∙ ap (λ xs. low_bits 8 (c / 256 % 256) ++ xs) (low_bits-add 8 8 (c / 256 / 256)
    ∙ ap₂ (λ k l. low_bits 8 (k % 256) ++ low_bits 8 l) second last
    ∙ ap (λ xs. low_bits 8 (c / 65536 % 256) ++ xs) (sym (append-nil (low_bits 8 (c / 16777216 % 256)))))))

are_four : (c : ℕ) → AreBytes (to_le_bytes w32 c)
are_four c zero = omega arith
are_four c (suc zero) = omega arith
are_four c (suc (suc zero)) = omega arith
are_four c (suc (suc (suc zero))) = omega arith
are_four c (suc (suc (suc (suc i)))) = lit< tt

bytes-append : (xs ys : List ℕ) → AreBytes xs → AreBytes ys → AreBytes (xs ++ ys)
bytes-append [] ys h k i = k i
bytes-append (x ∷ xs) ys h k zero = h 0
bytes-append (x ∷ xs) ys h k (suc i) = bytes-append xs ys (λ j. h (suc j)) k i

-- what 32 steps make of all ones
last_register : steps 32 (2 ^ 32 - 1) ≡ 0xB798B438
unfolding steps step_bit
last_register = refl

-- the complement of a register that comes behind it
ends_alike : (r : ℕ) → r < 2 ^ 32 → fold step_byte r (to_le_bytes w32 (2 ^ 32 - 1 - r)) ≡ 0xB798B438
ends_alike r fits =
    let c : ℕ = 2 ^ 32 - 1 - r in
    let small : c < 2 ^ 32 = omega arith in
    run_bytes r (to_le_bytes w32 c) (are_four c)
    ∙ ap (run r) (four_bytes c small)
    ∙ run_low_bits 32 r c small
    ∙ ap (steps 32) (complement_xor r fits)
    ∙ last_register

register_fits : (bytes : List ℕ) → AreBytes bytes → fold step_byte all_ones bytes < 2 ^ 32
register_fits bytes h = rw (run_bytes all_ones bytes h) (run_fits all_ones (bits_of bytes) (bits_of_are bytes) (lit< tt))

pub sum_behind : SumBehindIsFixed
unfolding crc32c_of with_sum
sum_behind bytes h =
    let r : ℕ = fold step_byte all_ones bytes in
    ap (λ x. 2 ^ 32 - 1 - x)
    (fold-append step_byte all_ones bytes (to_le_bytes w32 (2 ^ 32 - 1 - r)) ∙ ends_alike r (register_fits bytes h))

are_bytes : (bytes : List ℕ) → AreBytes bytes → AreBytes (with_sum bytes)
unfolding with_sum
are_bytes bytes h = bytes-append bytes (to_le_bytes w32 (crc32c_of bytes)) h (are_four (crc32c_of bytes))

same_messages : (a b : List ℕ) → with_sum a ≡ with_sum b → a ≡ b
unfolding with_sum
same_messages a b same =
    let sum_a : List ℕ = to_le_bytes w32 (crc32c_of a) in
    let sum_b : List ℕ = to_le_bytes w32 (crc32c_of b) in
    let lengths : length a ≡ length b = omega (arith, ap length same, length-append a sum_a, length-append b sum_b) in
    sym (take-append_seam a sum_a) ∙ ap₂ take lengths same ∙ take-append_seam b sum_b

pub bursts_are_seen : BurstsAreSeen
bursts_are_seen a b ha hb d =
    same_messages a b (burst_told (with_sum a) (with_sum b) (are_bytes a ha) (are_bytes b hb) d (sum_behind a ha ∙ sym (sum_behind b hb)))
