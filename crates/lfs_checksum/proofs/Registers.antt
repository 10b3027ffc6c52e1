-- No two registers come to one by the same bits: a step can be taken back, for the polynomial has its bit 31.
use Rattle.std.proofs.Common.{◌≡◌, ℕ, zero, suc, ◌/◌, ◌%◌, ◌^◌, ◌<◌, inl, inr, List, [], ◌∷◌, bit_xor, sym, ap, ◌∙◌, arith, lit<}
use Rattle.std.proofs.lemmas.Nat.{xor_comm, xor_lt}
use Rattle.std.specs.Int.Bits.{xor_assoc, xor_self, xor_zero_r}
use Rattle.lfs_checksum.specs.Division.{polynomial, step_bit, steps, crc32c_of}
use Rattle.lfs_checksum.proofs.Steps.{bit_cases, step_even, step_odd, step_is, steps_xor, taken}
use Rattle.lfs_checksum.proofs.Bits.{AreBits, run}

taken_fits : (d : ℕ) → taken d < 2 ^ 32
unfolding taken
taken_fits zero = lit< tt
taken_fits (suc d) = lit< tt

step_fits : (r : ℕ) → r < 2 ^ 32 → step_bit r < 2 ^ 32
step_fits r fits = rw (step_is r) (xor_lt 32 (r / 2) (taken (r % 2)) (omega arith) (taken_fits (r % 2)))

-- what becomes nothing by the same xor is the same
same_from_xor : (a b : ℕ) → bit_xor a b ≡ 0 → a ≡ b
same_from_xor a b none =
    sym (xor_zero_r a) ∙ ap (bit_xor a) (sym (xor_self b)) ∙ sym (xor_assoc a b b) ∙ ap (λ x. bit_xor x b) none

xor_twice : (a d : ℕ) → bit_xor (bit_xor a d) d ≡ a
xor_twice a d = xor_assoc a d d ∙ ap (bit_xor a) (xor_self d) ∙ xor_zero_r a

xor_same_right : (a b d : ℕ) → bit_xor a d ≡ bit_xor b d → a ≡ b
xor_same_right a b d same = sym (xor_twice a d) ∙ ap (λ x. bit_xor x d) same ∙ xor_twice b d

pub xor_same_left : (r a b : ℕ) → bit_xor r a ≡ bit_xor r b → a ≡ b
xor_same_left r a b same = xor_same_right a b r (xor_comm a r ∙ same ∙ xor_comm r b)

step_zero : (d : ℕ) → d < 2 ^ 32 → step_bit d ≡ 0 → d ≡ 0
step_zero d fits none =
    elim (bit_cases d) [
      | inl even ↦ let half : d / 2 ≡ 0 = sym (step_even d even) ∙ none in omega arith
      | inr odd ↦ let half : d / 2 ≡ polynomial = same_from_xor (d / 2) polynomial (sym (step_odd d odd) ∙ none) in absurd (omega arith)
    ]

steps_zero : (n d : ℕ) → d < 2 ^ 32 → steps n d ≡ 0 → d ≡ 0
unfolding steps
steps_zero zero d fits none = none
steps_zero (suc n) d fits none = step_zero d fits (steps_zero n (step_bit d) (step_fits d fits) none)

pub steps_same : (n a b : ℕ) → a < 2 ^ 32 → b < 2 ^ 32 → steps n a ≡ steps n b → a ≡ b
steps_same n a b fa fb same =
    same_from_xor a b (steps_zero n (bit_xor a b) (xor_lt 32 a b fa fb)
    (steps_xor n a b ∙ ap (λ x. bit_xor x (steps n b)) same ∙ xor_self (steps n b)))

with_bit : (r d : ℕ) → r < 2 ^ 32 → d < 2 → bit_xor r d < 2 ^ 32
with_bit r d fits bit = xor_lt 32 r d fits (omega arith)

pub run_fits : (r : ℕ) (ds : List ℕ) → AreBits ds → r < 2 ^ 32 → run r ds < 2 ^ 32
unfolding run
run_fits r [] bits fits = fits
run_fits r (d ∷ ds) bits fits = run_fits (step_bit (bit_xor r d)) ds bits.1 (step_fits (bit_xor r d) (with_bit r d fits bits.0))

step_same : (a b : ℕ) → a < 2 ^ 32 → b < 2 ^ 32 → step_bit a ≡ step_bit b → a ≡ b
unfolding steps
step_same a b fa fb same = steps_same 1 a b fa fb same

pub run_same : (ds : List ℕ) (r s : ℕ) → AreBits ds → r < 2 ^ 32 → s < 2 ^ 32 → run r ds ≡ run s ds → r ≡ s
unfolding run
run_same [] r s bits fr fs same = same
run_same (d ∷ ds) r s bits fr fs same =
    let r_fits = with_bit r d fr bits.0 in
    let s_fits = with_bit s d fs bits.0 in
    let stepped = run_same ds (step_bit (bit_xor r d)) (step_bit (bit_xor s d)) bits.1 (step_fits _ r_fits) (step_fits _ s_fits) same in
    xor_same_right r s d (step_same (bit_xor r d) (bit_xor s d) r_fits s_fits stepped)

pub sum_fits : (bytes : List ℕ) → crc32c_of bytes < 2 ^ 32
unfolding crc32c_of
sum_fits bytes = omega arith
