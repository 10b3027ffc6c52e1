use Rattle.std.proofs.Common.{rules, ◌≢◌, ◌∷◌, [], slice_index}
use Rattle.hex.specs.Hex.{encode_lower}
use Rattle.lfs_words.proofs.Digits.{decode-fails, decode-gives}
use Rattle.lfs_words.proofs.escape.byte_of.Goals as goal

pub returns-in_default-clause-none : goal.returns-in_default-clause-none
returns-in_default-clause-none c = λ e. decode-fails c.args.digits.now c.decode_to_slice.new.out
    c.decode_to_slice.ensures.value c.in_default.is

pub returns-else-eq-clause-none : goal.returns-else-eq-clause-none
returns-else-eq-clause-none c = λ e.
    let differ : encode_lower (slice_index c.decode_to_slice.new.out 0 ∷ []) ≢ c.args.digits.now = search rules in
    decode-gives c.args.digits.now c.decode_to_slice.result c.decode_to_slice.new.out c.decode_to_slice.ensures.value differ
