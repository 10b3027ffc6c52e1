use Rattle.std.proofs.Common.{rules, ◌≡◌, sym, ◌∙◌}
use Rattle.lfs_grammar.proofs.reading.has_word.Goals as goal

pub returns-then-eq : goal.returns-then-eq
returns-then-eq c =
    let same : c.as_str.result.now ≡ c.args.wanted.now = search rules in
    (c.loop-word.word-index, c.word-item.result, c.loop-word-test.true, sym c.word-item.is, sym c.as_str.ensures.value ∙ same)
