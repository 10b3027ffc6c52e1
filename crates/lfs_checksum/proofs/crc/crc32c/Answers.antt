use Rattle.std.proofs.Common.{◌-◌, fold, ap, ◌∙◌, arith}
use Rattle.std.proofs.lemmas.List.{take_all}
use Rattle.lfs_checksum.specs.Division.{all_ones, step_byte, crc32c_of}
use Rattle.lfs_checksum.proofs.crc.crc32c.Goals as goal

pub returns : goal.returns
unfolding crc32c_of
returns c =
    let all = take_all c.loop-byte.byte-index c.args.bytes.now (omega arith) in
    ap (λ x. 4294967295 - x) (c.loop-byte.invariant ∙ ap (fold step_byte all_ones) all)
