use Rattle.lfs_lines.proofs.TwoWords.{both_bytes, both_memory, both_ok, both_spelling}
use Rattle.lfs_lines.proofs.call.two_words.Goals as goal

pub returns-clause-ok : goal.returns-clause-ok
returns-clause-ok c =
    both_ok _ c.in_ok-first.ensures.ok c.read_escaped.result c.read_escaped-2.result
    c.both.result c.both.ensures c.read_escaped.ensures c.read_escaped-2.ensures

pub returns-clause-bytes : goal.returns-clause-bytes
returns-clause-bytes c =
    both_bytes _ c.in_ok-first.ensures.ok c.read_escaped.result c.read_escaped-2.result
    c.both.result c.both.ensures c.read_escaped.ensures c.read_escaped-2.ensures

pub returns-clause-spelling : goal.returns-clause-spelling
returns-clause-spelling c =
    both_spelling _ c.in_ok-first.ensures.ok c.read_escaped.result c.read_escaped-2.result
    {r = c.both.result} c.both.ensures c.read_escaped.ensures c.read_escaped-2.ensures

pub returns-clause-memory : goal.returns-clause-memory
returns-clause-memory c =
    both_memory _ c.in_ok-first.ensures.ok c.read_escaped.result c.read_escaped-2.result
    {r = c.both.result} c.both.ensures c.read_escaped.ensures c.read_escaped-2.ensures
