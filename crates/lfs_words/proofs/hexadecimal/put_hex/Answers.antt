use Rattle.std.proofs.Common.{rules, refl, ap, suc, ◌∙◌, ◌<◌, ◌≤◌, ◌+◌, length, arith}
use Rattle.lfs_words.proofs.Pieces.{puts_some}
use Rattle.lfs_words.proofs.Digits.{digits-none, digits-more, digits-some}
use Rattle.lfs_words.proofs.Spellings.{hex_written, hex_all}
use Rattle.lfs_words.proofs.hexadecimal.put_hex.Goals as goal

pub loop-at-init : goal.loop-at-init
loop-at-init g c = (omega arith, digits-none (g.W.Write.contents c.args.writer.now) c.args.bytes.now, refl)

pub returns-in_err-put_digits : goal.returns-in_err-put_digits
returns-in_err-put_digits g c =
    let some : 0 < length c.args.bytes.now = search rules in
    puts_some _ _ c.from_residual.ensures.1 (hex_written _ _ c.args.bytes.now c.bytes_fit.ensures
    (digits-some _ _ _ c.args.bytes.now c.loop-at.at c.min-n.result some c.loop-at.invariant.1 c.in_err-put_digits.ensures.err))
    (c.in_err-put_digits.ensures.counted ∙ ap (λ n. suc n) c.loop-at.invariant.2)

pub loop-at-preserved : goal.loop-at-preserved
loop-at-preserved g c =
    let within : c.loop-at.at + c.min-n.result ≤ length c.args.bytes.now = search rules in (
      within,
      digits-more _ _ _ c.args.bytes.now c.loop-at.at c.min-n.result c.loop-at.invariant.1 c.in_ok-put_digits.ensures.ok,
      c.in_ok-put_digits.ensures.counted ∙ c.loop-at.invariant.2,
    )

pub returns : goal.returns
returns g c =
    let some : 0 < length c.args.bytes.now = search rules in
    let past : length c.args.bytes.now ≤ c.loop-at.at = search rules in
    record {
      ok = hex_all _ _ c.args.bytes.now c.loop-at.at c.bytes_fit.ensures some past c.loop-at.invariant.1;
      err = tt;
      counted = c.loop-at.invariant.2;
    }
