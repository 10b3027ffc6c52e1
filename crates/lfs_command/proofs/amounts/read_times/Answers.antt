use Rattle.std.proofs.Common.{sym, ◌∙◌, rules}
use Rattle.lfs_command.proofs.AmountWords.{no_other}
use Rattle.lfs_command.proofs.amounts.read_times.Goals as goal

pub returns-clause-none : goal.returns-clause-none
returns-clause-none c none number small e =
    no_other c.in-Some.number number c.checked_mul.result c.requires (search rules) small (c.in-Some.ensures.found ∙ sym e)
    c.checked_mul.ensures none
