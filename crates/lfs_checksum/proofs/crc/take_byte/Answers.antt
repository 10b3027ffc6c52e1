use Rattle.std.proofs.Common.{◌/◌, ap, bit_xor, ◌∙◌, arith}
use Rattle.lfs_checksum.proofs.Steps.{byte_step}
use Rattle.lfs_checksum.proofs.crc.take_byte.Goals as goal

pub returns : goal.returns
returns c =
    let r = c.args.register in
    let b = c.args.byte in
    ap (λ x. bit_xor x (r / 256)) c.after_eight.ensures ∙ byte_step r b (omega arith)
