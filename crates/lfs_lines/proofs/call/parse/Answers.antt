use Rattle.std.proofs.Common.{rules, ◌≡◌, ◌∷◌, option_copied}
use Rattle.lfs_words.specs.Cuts.{cut, words_left}
use Rattle.lfs_lines.specs.Command.{command_word}
use Rattle.lfs_lines.proofs.LineWords.{ok_text, bad_text, found_text, no_command}
use Rattle.lfs_lines.proofs.call.parse.Goals as goal

pub returns-in_default-clause-spelling : goal.returns-in_default-clause-spelling
returns-in_default-clause-spelling c = λ e.
    let words : cut c.args.line.now ≡ c.in_ok-next.field-0.now ∷ words_left (option_copied c.next.new.self.rest) = search rules in
    bad_text c.args.line.now words (no_command c.in_ok-next.field-0.now _ (c.of.ensures.none c.in_default.is))

pub returns-clause-ok : goal.returns-clause-ok
returns-clause-ok c =
    let words : cut c.args.line.now ≡ command_word c.in-Some.command ∷ words_left (option_copied c.next.new.self.rest) = search rules in
    ok_text c.call_of.result c.args.line.now words c.call_of.ensures.ok

pub returns-clause-spelling : goal.returns-clause-spelling
returns-clause-spelling c = λ e.
    let words : cut c.args.line.now ≡ command_word c.in-Some.command ∷ words_left (option_copied c.next.new.self.rest) = search rules in
    bad_text c.args.line.now words (c.call_of.ensures.spelling e)

pub returns-clause-memory : goal.returns-clause-memory
returns-clause-memory c = λ e.
    let words : cut c.args.line.now ≡ command_word c.in-Some.command ∷ words_left (option_copied c.next.new.self.rest) = search rules in
    found_text words (c.call_of.ensures.memory e)
