use Rattle.std.proofs.Common.{rules, ◌<◌, ◌∷◌, [], ◌++◌}
use Rattle.lfs_words.proofs.Escapes.{spells-none, spells-more, spells-stuck}
use Rattle.lfs_words.proofs.escape.is_spelt.Goals as goal

pub loop-at-init : goal.loop-at-init
loop-at-init c = ([], spells-none c.args.word.now)

pub returns-in_default-clause-no : goal.returns-in_default-clause-no
returns-in_default-clause-no c = λ e.
    spells-stuck c.loop-at.invariant.1 c.loop-at-test.true (c.first_byte.ensures.none c.in_default.is)

pub loop-at-preserved : goal.loop-at-preserved
loop-at-preserved c =
    let fits : c.in-Some.field-0-0 < 256 = search rules in
    let more = spells-more c.in-Some.field-0-0 c.in-Some.n c.loop-at.invariant.1 fits c.in-Some.ensures.found in
    (c.loop-at.invariant.0 ++ c.in-Some.field-0-0 ∷ [], more.2)
