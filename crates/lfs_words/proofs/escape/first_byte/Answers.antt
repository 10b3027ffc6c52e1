use Rattle.std.proofs.Common.{rules, ◌≡◌, ◌<◌, arith, length, true, slice_index}
use Rattle.lfs_words.specs.Words.{is_plain}
use Rattle.lfs_words.proofs.Escapes.{plain_front, none_front, none_empty}
use Rattle.lfs_words.proofs.escape.first_byte.Goals as goal

pub returns-then-is_empty-clause-none : goal.returns-then-is_empty-clause-none
returns-then-is_empty-clause-none c = λ e. none_empty c.args.word.now (search rules)

pub returns-then-is_plain-clause-found : goal.returns-then-is_plain-clause-found
returns-then-is_plain-clause-found c =
    let some : 0 < length c.args.word.now = search rules in
    let plain : is_plain (slice_index c.args.word.now 0) ≡ true = search rules in
    (omega arith, omega arith, plain_front c.args.word.now some plain)

pub returns-in_default-clause-none : goal.returns-in_default-clause-none
returns-in_default-clause-none c = λ e. none_front c.args.word.now (search rules) (c.escaped.ensures.none c.in_default.is)
