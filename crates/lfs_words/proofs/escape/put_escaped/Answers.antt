use Rattle.std.proofs.Common.{ap, suc, ◌∙◌}
use Rattle.lfs_model.specs.Script.{word_byte}
use Rattle.lfs_words.proofs.Pieces.{puts_some}
use Rattle.lfs_words.proofs.PieceTexts.{pieces-more}
use Rattle.lfs_words.proofs.Spellings.{some_of_word}
use Rattle.lfs_words.proofs.escape.put_escaped.Goals as goal

pub returns-in_err-put_byte : goal.returns-in_err-put_byte
returns-in_err-put_byte g c =
    puts_some _ _ c.from_residual.ensures.1
    (some_of_word _ _ _ c.args.bytes.now c.loop-byte.byte-index c.loop-byte-test.true c.loop-byte.invariant.0
    c.in_err-put_byte.ensures.err) (c.in_err-put_byte.ensures.counted ∙ ap (λ n. suc n) c.loop-byte.invariant.1)

pub loop-byte-preserved : goal.loop-byte-preserved
loop-byte-preserved g c = (
  pieces-more word_byte _ _ _ c.args.bytes.now c.loop-byte.byte-index 0 c.loop-byte-test.true c.loop-byte.invariant.0
      c.in_ok-put_byte.ensures.ok,
  c.in_ok-put_byte.ensures.counted ∙ c.loop-byte.invariant.1,
)
