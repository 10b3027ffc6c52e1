-- CRC-32C, the checksum of RFC 3720, sections 12.1 and B.4, bit by bit: the remainder of a division of polynomials over two elements.
use Rattle.std.specs.Prelude.{ℕ, zero, suc, ◌/◌, ◌%◌, ◌==◌, List, bit_xor, fold, if◌then◌else◌}
use Rattle.std.specs.Int.{w32, bit_not}

-- The divisor: 0x11EDC6F41 is its 33 bits from x^32 down to x^0. Without that of x^32 they are 0x1EDC6F41, and in reverse these. So the
-- register has the coefficient of x^31 as its lowest bit, and that of x^0 as bit 31.
abbrev pub polynomial : ℕ
polynomial = 0x82F63B78

-- the register as a message begins
abbrev pub all_ones : ℕ
all_ones = 0xFFFFFFFF

-- One step of the division: the register times x. Where that brings forth x^32, the divisor is taken off, and to subtract is to xor.
unfoldable pub step_bit : ℕ → ℕ
step_bit register = if register % 2 == 1 then bit_xor (register / 2) polynomial else register / 2

-- so many steps
unfoldable pub steps : ℕ → ℕ → ℕ
steps zero register = register
steps (suc n) register = steps n (step_bit register)

-- A byte comes to the eight highest powers, its lowest bit to x^31, and there is a step for each of its bits.
unfoldable pub step_byte : ℕ → ℕ → ℕ
step_byte register byte = steps 8 (bit_xor register byte)

-- the complement of what the bytes leave in the register
unfoldable pub crc32c_of : List ℕ → ℕ
crc32c_of bytes = bit_not w32 (fold step_byte all_ones bytes)
