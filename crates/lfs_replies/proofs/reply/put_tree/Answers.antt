use Rattle.std.proofs.Common.{rules, ap, suc, ◌∙◌, ◌≡◌, ◌∷◌, [], decimal, length, get_or}
use Rattle.lfs_model.specs.Script.{ok, row_line}
use Rattle.lfs_fs.specs.Answers.{row_of}
use Rattle.lfs_words.proofs.Pieces.{puts_some, some_front}
use Rattle.lfs_words.proofs.PieceTexts.{after-more, after-some}
use Rattle.lfs_replies.proofs.reply.put_tree.Goals as goal

pub returns-in_err-put_number_line : goal.returns-in_err-put_number_line
returns-in_err-put_number_line g c = puts_some _ _ c.from_residual.ensures.1 (some_front _ _ _ _ c.in_err-put_number_line.ensures.err)
    c.in_err-put_number_line.ensures.counted

pub returns-in_err-put_row : goal.returns-in_err-put_row
returns-in_err-put_row g c =
    let is : get_or c.args.rows.now c.loop-row.row-index c.row-item.result ≡ c.row-item.result = search rules in
    puts_some _ _ c.from_residual-in_err-put_row.ensures.1
    (after-some (λ row. row_line (row_of row)) (ok (decimal (length c.args.rows.now) ∷ [])) _ _ _ c.args.rows.now
    c.loop-row.row-index c.loop-row-test.true is c.loop-row.invariant.0 c.in_err-put_row.ensures.err)
    (c.in_err-put_row.ensures.counted ∙ ap (λ n. suc n) c.loop-row.invariant.1)

pub loop-row-preserved : goal.loop-row-preserved
loop-row-preserved g c =
    let is : get_or c.args.rows.now c.loop-row.row-index c.row-item.result ≡ c.row-item.result = search rules in (
      after-more (λ row. row_line (row_of row)) (ok (decimal (length c.args.rows.now) ∷ [])) _ _ _ c.args.rows.now c.loop-row.row-index
          c.loop-row-test.true is c.loop-row.invariant.0 c.in_ok-put_row.ensures.ok,
      c.in_ok-put_row.ensures.counted ∙ c.loop-row.invariant.1,
    )
