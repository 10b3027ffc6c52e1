use Rattle.std.proofs.Common.{rules, ap, suc, ◌∙◌, ◌≡◌, ◌∷◌, [], decimal, length, get_or}
use Rattle.lfs_model.specs.Script.{ok, entry_line}
use Rattle.lfs_fs.specs.Answers.{entry_of}
use Rattle.lfs_words.proofs.Pieces.{puts_some, some_front}
use Rattle.lfs_words.proofs.PieceTexts.{after-more, after-some}
use Rattle.lfs_replies.proofs.reply.put_entries.Goals as goal

pub returns-in_err-put_number_line : goal.returns-in_err-put_number_line
returns-in_err-put_number_line g c = puts_some _ _ c.from_residual.ensures.1 (some_front _ _ _ _ c.in_err-put_number_line.ensures.err)
    c.in_err-put_number_line.ensures.counted

pub returns-in_err-put_entry : goal.returns-in_err-put_entry
returns-in_err-put_entry g c =
    let is : get_or c.args.entries.now c.loop-entry.entry-index c.entry-item.result ≡ c.entry-item.result = search rules in
    puts_some _ _ c.from_residual-in_err-put_entry.ensures.1
    (after-some (λ entry. entry_line (entry_of entry)) (ok (decimal (length c.args.entries.now) ∷ [])) _ _ _ c.args.entries.now
    c.loop-entry.entry-index c.loop-entry-test.true is c.loop-entry.invariant.0 c.in_err-put_entry.ensures.err)
    (c.in_err-put_entry.ensures.counted ∙ ap (λ n. suc n) c.loop-entry.invariant.1)

pub loop-entry-preserved : goal.loop-entry-preserved
loop-entry-preserved g c =
    let is : get_or c.args.entries.now c.loop-entry.entry-index c.entry-item.result ≡ c.entry-item.result = search rules in (
      after-more (λ entry. entry_line (entry_of entry)) (ok (decimal (length c.args.entries.now) ∷ [])) _ _ _ c.args.entries.now
          c.loop-entry.entry-index c.loop-entry-test.true is c.loop-entry.invariant.0 c.in_ok-put_entry.ensures.ok,
      c.in_ok-put_entry.ensures.counted ∙ c.loop-entry.invariant.1,
    )
