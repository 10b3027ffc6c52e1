use Rattle.std.proofs.Common.{◌≡◌, fold, take}
use Rattle.lfs_checksum.specs.Division.{all_ones, step_byte}
use Rattle.lfs_checksum.proofs.crc.crc32c.Given as goal

abbrev pub invariant-loop-byte : goal.invariant-loop-byte
invariant-loop-byte l = l.register ≡ fold step_byte all_ones (take l.byte-index l.bytes)
