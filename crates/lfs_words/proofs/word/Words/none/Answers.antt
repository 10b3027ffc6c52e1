use Rattle.std.proofs.Common.{rules, ◌≡◌, true, is_some, option_copied, ◌∙◌}
use Rattle.lfs_words.proofs.Cuts.{cut_apart, is_some-copied}
use Rattle.lfs_words.proofs.word.Words.none.Goals as goal

pub returns-then-is_some-clause-err : goal.returns-then-is_some-clause-err
returns-then-is_some-clause-err c =
    let some : is_some c.args.self.rest ≡ true = search rules in
    cut_apart (option_copied c.args.self.rest) (is_some-copied c.args.self.rest ∙ some)
