use Rattle.std.proofs.Common.{refl}
use Rattle.lfs_checksum.specs.Division.{step_bit, steps, step_byte, crc32c_of}
use Rattle.lfs_checksum.specs.Examples.{read_command}
use Rattle.lfs_checksum.proofs.laws.examples_have_their_sums.Goals as goal

pub returns-clause-zeros : goal.returns-clause-zeros
unfolding step_bit steps step_byte crc32c_of
returns-clause-zeros c = refl

pub returns-clause-ones : goal.returns-clause-ones
unfolding step_bit steps step_byte crc32c_of
returns-clause-ones c = refl

pub returns-clause-counted_up : goal.returns-clause-counted_up
unfolding step_bit steps step_byte crc32c_of
returns-clause-counted_up c = refl

pub returns-clause-counted_down : goal.returns-clause-counted_down
unfolding step_bit steps step_byte crc32c_of
returns-clause-counted_down c = refl

pub returns-clause-command : goal.returns-clause-command
unfolding step_bit steps step_byte crc32c_of read_command
returns-clause-command c = refl

pub returns-clause-digits : goal.returns-clause-digits
unfolding step_bit steps step_byte crc32c_of
returns-clause-digits c = refl
