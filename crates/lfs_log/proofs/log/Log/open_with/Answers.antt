use Rattle.lfs_log.proofs.Opens.{opens_none, opens_some}
use Rattle.lfs_log.proofs.log.Log.open_with.Goals as goal

pub with_tables-requires-clause-found : goal.with_tables-requires-clause-found
with_tables-requires-clause-found g c = rw c.in-Ok-verify.ensures.looks.untouched.content c.in-Ok-verify.ensures.found

pub with_tables-requires-clause-durable : goal.with_tables-requires-clause-durable
with_tables-requires-clause-durable g c = rw c.in-Ok-verify.ensures.looks.untouched.content c.in-Ok-verify.ensures.durable

pub with_tables-requires-clause-units : goal.with_tables-requires-clause-units
with_tables-requires-clause-units g c =
    let looks = c.in-Ok-verify.ensures.looks in
    rw (looks.untouched.content, looks.carries.unit, c.in-Ok.ensures) c.requires.units

pub returns-in-Err-verify : goal.returns-in-Err-verify
returns-in-Err-verify g c =
    let told = c.in-Err-verify.ensures in
    rw (← c.in-Ok.ensures, c.into_inner.ensures) (opens_none _ _ told.looks told.cause told.reason)

pub returns-in-Ok-with_tables : goal.returns-in-Ok-with_tables
returns-in-Ok-with_tables g c =
    let told = c.in-Ok-verify.ensures in
    let made = c.in-Ok-with_tables.ensures in
    rw (← c.in-Ok.ensures) (opens_some _ _ told.looks made.same made.opened told.found told.durable)
