use Rattle.std.proofs.Common.{rules}
use Rattle.lfs_command.proofs.AmountWords.{found_g, found_k, found_m, none_g, none_k, none_m}
use Rattle.lfs_command.proofs.amounts.read_bytes.Goals as goal

pub returns-in-Some-eq75-default-clause-found : goal.returns-in-Some-eq75-default-clause-found
returns-in-Some-eq75-default-clause-found c =
    found_k c.in-Some-eq75-default.digits.now c.read_times.result (search rules)
    c.read_times.ensures.found

pub returns-in-Some-eq75-default-clause-none : goal.returns-in-Some-eq75-default-clause-none
returns-in-Some-eq75-default-clause-none c none =
    none_k c.in-Some-eq75-default.digits.now (search rules) (c.read_times.ensures.none none)

pub returns-in-Some-eq77-default-clause-found : goal.returns-in-Some-eq77-default-clause-found
returns-in-Some-eq77-default-clause-found c =
    found_m c.in-Some-eq77-default.digits.now c.read_times-in-Some-eq77-default.result (search rules)
    c.read_times-in-Some-eq77-default.ensures.found

pub returns-in-Some-eq77-default-clause-none : goal.returns-in-Some-eq77-default-clause-none
returns-in-Some-eq77-default-clause-none c none =
    none_m c.in-Some-eq77-default.digits.now (search rules) (c.read_times-in-Some-eq77-default.ensures.none none)

pub returns-in-Some-eq71-default-clause-found : goal.returns-in-Some-eq71-default-clause-found
returns-in-Some-eq71-default-clause-found c =
    found_g c.in-Some-eq71-default.digits.now c.read_times-in-Some-eq71-default.result (search rules)
    c.read_times-in-Some-eq71-default.ensures.found

pub returns-in-Some-eq71-default-clause-none : goal.returns-in-Some-eq71-default-clause-none
returns-in-Some-eq71-default-clause-none c none =
    none_g c.in-Some-eq71-default.digits.now (search rules) (c.read_times-in-Some-eq71-default.ensures.none none)
