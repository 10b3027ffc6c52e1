-- Messages that differ in a few bits next to each other, as a sector and what damage at one place makes of it.
use Rattle.std.specs.Prelude.{◌≡◌, ◌≢◌, ℕ, zero, suc, ◌<◌, ◌≤◌, ◌/◌, ◌%◌, List, [], ◌∷◌, ◌++◌, length, slice_index}
use Rattle.std.specs.Int.{w32, to_le_bytes}
use Rattle.lfs_checksum.specs.Division.{crc32c_of}

abbrev pub AreBytes : List ℕ → Type 0
AreBytes bytes = (i : ℕ) → slice_index bytes i < 256

-- the lowest n bits of a number, the lowest first
unfoldable pub low_bits : ℕ → ℕ → List ℕ
low_bits zero number = []
low_bits (suc n) number = number % 2 ∷ low_bits n (number / 2)

-- the bits of bytes as the division takes them
unfoldable pub bits_of : List ℕ → List ℕ
bits_of [] = []
bits_of (byte ∷ bytes) = low_bits 8 byte ++ bits_of bytes

-- Two messages of one length have the same bits but for those of a burst: some bits in a row, at most 32.
pub record DifferInBurst (a b : List ℕ) : Type 0 where
  pub before : List ℕ
  pub old : List ℕ
  pub new : List ℕ
  pub after : List ℕ
  pub a_is : bits_of a ≡ before ++ old ++ after
  pub b_is : bits_of b ≡ before ++ new ++ after
  pub same_length : length new ≡ length old
  pub short : length old ≤ 32

-- Two messages that differ in a burst have different sums.
abbrev pub BurstsChangeTheSum : Type 0
BurstsChangeTheSum = (a b : List ℕ) → AreBytes a → AreBytes b → DifferInBurst a b → a ≢ b → crc32c_of a ≢ crc32c_of b

-- a message with its sum behind it as four bytes, the lowest first
unfoldable pub with_sum : List ℕ → List ℕ
with_sum bytes = bytes ++ to_le_bytes w32 (crc32c_of bytes)

-- The sum of a message with its sum behind it is one number: the complement of 0xB798B438, which the register then has.
abbrev pub SumBehindIsFixed : Type 0
SumBehindIsFixed = (bytes : List ℕ) → AreBytes bytes → crc32c_of (with_sum bytes) ≡ 0x48674BC7

-- A burst in a message, in the sum behind it or across both makes of the two no other message with its sum.
abbrev pub BurstsAreSeen : Type 0
BurstsAreSeen = (a b : List ℕ) → AreBytes a → AreBytes b → DifferInBurst (with_sum a) (with_sum b) → a ≡ b
