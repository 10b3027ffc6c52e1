use Rattle.std.proofs.Common.{rules}
use Rattle.std.specs.Str.Parse.{ParsesUnsigned}
use Rattle.lfs_words.specs.Words.{IsBare}
use Rattle.lfs_words.proofs.Numbers.{not_bare, not_utf8, read-found, read-none}
use Rattle.lfs_words.proofs.number.read_u64.Goals as goal

pub returns-then-not-is_bare-clause-none : goal.returns-then-not-is_bare-clause-none
returns-then-not-is_bare-clause-none c = λ e n fits. not_bare c.args.word.now (λ b. search rules) n fits

pub returns-in_default-clause-none : goal.returns-in_default-clause-none
returns-in_default-clause-none c = λ e n fits. not_utf8 c.args.word.now (search rules) n fits

pub returns-clause-found : goal.returns-clause-found
returns-clause-found c =
    let bare : IsBare c.args.word.now = search rules in
    let parsed : ParsesUnsigned 64 10 c.args.word.now c.parse.result = search rules in
    rw c.ok.ensures.value (read-found c.args.word.now c.parse.result bare parsed)

pub returns-clause-none : goal.returns-clause-none
returns-clause-none c =
    let bare : IsBare c.args.word.now = search rules in
    let parsed : ParsesUnsigned 64 10 c.args.word.now c.parse.result = search rules in
    rw c.ok.ensures.value (read-none c.args.word.now c.parse.result bare parsed)
