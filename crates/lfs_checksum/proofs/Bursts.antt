-- Of a burst of at most 32 bits the register tells which bits came.
use Rattle.std.proofs.Common.{◌≡◌, ℕ, zero, suc, ◌+◌, ◌*◌, ◌/◌, ◌%◌, ◌^◌, ◌<◌, ◌≤◌, List, [], ◌∷◌, ◌++◌, length, take, drop, bit_xor}
use Rattle.std.proofs.Common.{refl, sym, ap, ap₂, subst, ◌∙◌, arith, lit<, pow-suc, pow_mono}
use Rattle.std.proofs.lemmas.Nat.{xor_lt}
use Rattle.lfs_checksum.specs.Division.{all_ones, steps, crc32c_of}
use Rattle.lfs_checksum.specs.Bursts.{AreBytes, low_bits, bits_of, DifferInBurst, BurstsChangeTheSum}
use Rattle.lfs_checksum.proofs.Bits.{AreBits, bits-first, bits-rest, bits_of_are, run, run-append, run_low_bits, run_bytes}
use Rattle.lfs_checksum.proofs.Registers.{steps_same, run_fits, run_same, xor_same_left}

-- the number whose bits they are
unfoldable pub number_of : List ℕ → ℕ
number_of [] = 0
number_of (d ∷ ds) = number_of ds * 2 + d

number_fits : (ds : List ℕ) → AreBits ds → number_of ds < 2 ^ length ds
unfolding number_of
number_fits [] bits = lit< tt
number_fits (d ∷ ds) bits = omega (arith, bits.0, number_fits ds bits.1, pow-suc 2 (length ds))

number_bits : (ds : List ℕ) → AreBits ds → low_bits (length ds) (number_of ds) ≡ ds
unfolding number_of low_bits
number_bits [] bits = refl
number_bits (d ∷ ds) bits =
    let bit : d < 2 = bits.0 in
    let low : (number_of ds * 2 + d) % 2 ≡ d = omega arith in
    let high : (number_of ds * 2 + d) / 2 ≡ number_of ds = omega arith in
    ap₂ (λ x xs. x ∷ xs) low (ap (low_bits (length ds)) high ∙ number_bits ds bits.1)

number_of_low : (n k : ℕ) → k < 2 ^ n → number_of (low_bits n k) ≡ k
unfolding number_of low_bits
number_of_low zero k low = omega arith
number_of_low (suc n) k low = omega (arith, number_of_low n (k / 2) (omega (arith, pow-suc 2 n)))

run_number : (r : ℕ) (ds : List ℕ) → AreBits ds → run r ds ≡ steps (length ds) (bit_xor r (number_of ds))
run_number r ds bits = ap (run r) (sym (number_bits ds bits)) ∙ run_low_bits (length ds) r (number_of ds) (number_fits ds bits)

-- so few bits by themselves make of one register different ones
burst_same : (r : ℕ) (old new : List ℕ) → r < 2 ^ 32 → AreBits old → AreBits new → length new ≡ length old → length old ≤ 32
    → run r old ≡ run r new → old ≡ new
burst_same r old new fits bits others alike short same =
    let n : ℕ = length old in
    let room : 2 ^ n ≤ 2 ^ 32 = pow_mono short in
    let old_fits : number_of old < 2 ^ 32 = omega (arith, number_fits old bits) in
    let new_fits : number_of new < 2 ^ n = subst (λ m. number_of new < 2 ^ m) alike (number_fits new others) in
    let new_small : number_of new < 2 ^ 32 = omega arith in
    let stepped : steps n (bit_xor r (number_of old)) ≡ steps n (bit_xor r (number_of new)) =
    sym (run_number r old bits) ∙ same ∙ run_number r new others ∙ ap (λ m. steps m (bit_xor r (number_of new))) alike in
    let numbers : number_of old ≡ number_of new =
    xor_same_left r (number_of old) (number_of new)
    (steps_same n _ _ (xor_lt 32 r (number_of old) fits old_fits) (xor_lt 32 r (number_of new) fits new_small) stepped) in
    sym (number_bits old bits) ∙ ap₂ low_bits (sym alike) numbers ∙ number_bits new others

-- bytes by their bits
bytes_same : (a b : List ℕ) → AreBytes a → AreBytes b → bits_of a ≡ bits_of b → a ≡ b
unfolding bits_of low_bits
bytes_same [] [] ha hb same = refl
bytes_same [] (y ∷ b) ha hb same = cc
bytes_same (x ∷ a) [] ha hb same = cc
bytes_same (x ∷ a) (y ∷ b) ha hb same =
    let bits : low_bits 8 x ≡ low_bits 8 y = ap (take 8) same in
    let first : x ≡ y = sym (number_of_low 8 x (ha 0)) ∙ ap number_of bits ∙ number_of_low 8 y (hb 0) in
    ap₂ (λ z c. z ∷ c) first (bytes_same a b (λ i. ha (suc i)) (λ i. hb (suc i)) (ap (drop 8) same))

-- the register behind three parts
run_parts : (r : ℕ) (before mid after : List ℕ) → run r (before ++ mid ++ after) ≡ run (run (run r before) mid) after
run_parts r before mid after = run-append r (before ++ mid) after ∙ ap (λ s. run s after) (run-append r before mid)

-- what the bytes leave in the register is told by their sum
registers_same : (a b : List ℕ) → AreBytes a → AreBytes b → crc32c_of a ≡ crc32c_of b
    → run all_ones (bits_of a) ≡ run all_ones (bits_of b)
unfolding crc32c_of
registers_same a b ha hb same =
    let fa : run all_ones (bits_of a) < 2 ^ 32 = run_fits all_ones (bits_of a) (bits_of_are a) (lit< tt) in
    let fb : run all_ones (bits_of b) < 2 ^ 32 = run_fits all_ones (bits_of b) (bits_of_are b) (lit< tt) in
    let ra = run_bytes all_ones a ha in
    let rb = run_bytes all_ones b hb in
    omega arith

pub burst_told : (a b : List ℕ) → AreBytes a → AreBytes b → DifferInBurst a b → crc32c_of a ≡ crc32c_of b → a ≡ b
burst_told a b ha hb d same =
    let bits_a : AreBits (d.before ++ d.old ++ d.after) = subst AreBits d.a_is (bits_of_are a) in
    let bits_b : AreBits (d.before ++ d.new ++ d.after) = subst AreBits d.b_is (bits_of_are b) in
    let first_a = bits-first (d.before ++ d.old) d.after bits_a in
    let old_bits = bits-rest d.before d.old first_a in
    let new_bits = bits-rest d.before d.new (bits-first (d.before ++ d.new) d.after bits_b) in
    let after_bits = bits-rest (d.before ++ d.old) d.after bits_a in
    let r : ℕ = run all_ones d.before in
    let fits : r < 2 ^ 32 = run_fits all_ones d.before (bits-first d.before d.old first_a) (lit< tt) in
    let ends : run (run r d.old) d.after ≡ run (run r d.new) d.after =
    sym (ap (run all_ones) d.a_is ∙ run_parts all_ones d.before d.old d.after)
    ∙ registers_same a b ha hb same
    ∙ ap (run all_ones) d.b_is ∙ run_parts all_ones d.before d.new d.after in
    let behind : run r d.old ≡ run r d.new =
    run_same d.after _ _ after_bits (run_fits r d.old old_bits fits) (run_fits r d.new new_bits fits) ends in
    let alike : d.old ≡ d.new = burst_same r d.old d.new fits old_bits new_bits d.same_length d.short behind in
    bytes_same a b ha hb (d.a_is ∙ ap (λ m. d.before ++ m ++ d.after) alike ∙ sym d.b_is)

pub bursts_change_the_sum : BurstsChangeTheSum
bursts_change_the_sum a b ha hb d apart same = apart (burst_told a b ha hb d same)
