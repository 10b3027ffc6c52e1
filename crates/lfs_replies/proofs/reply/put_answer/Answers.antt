use Rattle.std.proofs.Common.{◌++◌, ◌∷◌, [], List, length, decimal, flat_map, subst, sym, ap, ◌∙◌}
use Rattle.lfs_model.specs.Script.{entry_line, ok, reply, row_line}
use Rattle.lfs_fs.specs.entries.declared.rows.ListedEntry.{ListedEntry as Entry}
use Rattle.lfs_fs.specs.entries.declared.rows.TreeRow.{TreeRow}
use Rattle.lfs_words.specs.Bytes.{Puts}
use Rattle.lfs_fs.specs.Answers.{entry_of, row_of}
use Rattle.lfs_replies.specs.Answers.{answer_of}
use Rattle.lfs_replies.proofs.Replies.{entries_reply, tree_reply}
use Rattle.lfs_replies.proofs.reply.put_answer.Goals as goal

pub returns-in-Tree : goal.returns-in-Tree
returns-in-Tree g c =
    subst (λ t. Puts (g.W.Write.contents c.args.writer.now) (g.W.Write.contents c.put_tree.new.writer)
    (g.C.CountsWrites.failures c.args.counter.now) (g.C.CountsWrites.failures c.put_tree.new.counter) t c.put_tree.result)
    (ap (λ (rows : List TreeRow). ok (decimal (length rows) ∷ []) ++ flat_map (λ row. row_line (row_of row)) rows)
    c.as_slice-in-Tree.ensures.value
    ∙ tree_reply c.in-Tree.rows.items ∙ ap (λ answer. reply (answer_of answer)) (sym c.in-Tree.is))
    c.put_tree.ensures

pub returns-in-Entries : goal.returns-in-Entries
returns-in-Entries g c =
    subst (λ t. Puts (g.W.Write.contents c.args.writer.now) (g.W.Write.contents c.put_entries.new.writer)
    (g.C.CountsWrites.failures c.args.counter.now) (g.C.CountsWrites.failures c.put_entries.new.counter) t c.put_entries.result)
    (ap (λ (entries : List Entry). ok (decimal (length entries) ∷ []) ++ flat_map (λ entry. entry_line (entry_of entry)) entries)
    c.as_slice-in-Entries.ensures.value
    ∙ entries_reply c.in-Entries.entries.items ∙ ap (λ answer. reply (answer_of answer)) (sym c.in-Entries.is))
    c.put_entries.ensures
