use Rattle.std.proofs.Common.{refl}
use Rattle.std.specs.Int.{reverse_bits_onto}
use Rattle.lfs_checksum.proofs.laws.polynomial_is_reversed.Goals as goal

pub returns : goal.returns
unfolding reverse_bits_onto
returns c = refl
