use Rattle.std.proofs.Common.{rules, ◌≡◌, ◌<◌, ◌^◌, decimal, arith}
use Rattle.lfs_words.proofs.Numbers.{small-none}
use Rattle.lfs_words.proofs.number.read_u8.Goals as goal

pub returns-clause-none : goal.returns-clause-none
returns-clause-none c =
    let fits : c.in-Some.number < 2 ^ 64 = search rules in
    let found : decimal c.in-Some.number ≡ c.args.word.now = search rules in
    rw c.ok.ensures.value (small-none 256 c.in-Some.number c.try_from.result (omega arith) fits found c.try_from.ensures)
