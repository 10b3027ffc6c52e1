use Rattle.std.proofs.Common.{◌≡◌, sym, ◌∙◌}
use Rattle.lfs_lines.specs.Command.{command_in}
use Rattle.lfs_lines.proofs.Commands.{all_named, all_rows, found_in, lacks_all, lacks_in}
use Rattle.lfs_lines.proofs.command.Command.of.Goals as goal

pub returns-clause-found : goal.returns-clause-found
returns-clause-found c =
    let is : c.look_up.result ≡ command_in all_rows c.args.word.now = c.look_up.ensures in
    rw is (found_in all_rows c.args.word.now all_named)

pub returns-clause-none : goal.returns-clause-none
returns-clause-none c =
    let is : c.look_up.result ≡ command_in all_rows c.args.word.now = c.look_up.ensures in
    λ none. lacks_all c.args.word.now (lacks_in all_rows c.args.word.now (sym is ∙ none))
