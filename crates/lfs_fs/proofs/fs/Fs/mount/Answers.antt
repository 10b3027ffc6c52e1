use Rattle.lfs_fs.proofs.Prelude.{Fs, arith, carries_none}
use Rattle.lfs_fs.proofs.mount.Ends.{durable_now, finds_state, memory_fault, memory_reason, mounts_fs}
use Rattle.lfs_fs.proofs.mount.Ends.{only_there, tables_there, told_volume}
use Rattle.lfs_fs.proofs.mount.Available.{available}
use Rattle.lfs_fs.proofs.fs.Fs.mount.Goals as goal

pub with_tables-requires-clause-found : goal.with_tables-requires-clause-found
with_tables-requires-clause-found g c =
    tables_there c.in-Ok-verify_tree.ensures.looks c.in-Ok-verify_tree.ensures.found

pub with_tables-requires-clause-durable : goal.with_tables-requires-clause-durable
with_tables-requires-clause-durable g c =
    only_there c.in-Ok-verify_tree.ensures.looks c.in-Ok-verify_tree.ensures.durable

pub with_tables-requires-clause-units : goal.with_tables-requires-clause-units
with_tables-requires-clause-units g c =
    let looks = c.in-Ok-verify_tree.ensures.looks in
    rw (looks.untouched.content, looks.carries.unit, c.in-Ok.ensures.same) c.requires

pub returns-in-Ok-with_tables-clause-mounts : goal.returns-in-Ok-with_tables-clause-mounts
returns-in-Ok-with_tables-clause-mounts g c =
    let told = c.in-Ok-with_tables.ensures in
    rw (← c.in-Ok.ensures.same) (mounts_fs _ _ (g.met.D.SectorDevice.lawful c.in-Ok.device)
    c.in-Ok-verify_tree.ensures.looks _
    told.same told.stores told.counts
    c.in-Ok-verify_tree.ensures.durable told.saved c.new.ensures)

pub returns-in-Ok-with_tables-clause-only : goal.returns-in-Ok-with_tables-clause-only
returns-in-Ok-with_tables-clause-only g c =
    let told = c.in-Ok-with_tables.ensures in
    rw (← c.in-Ok.ensures.same) (finds_state _ _ (g.met.D.SectorDevice.lawful c.in-Ok.device)
    c.in-Ok-verify_tree.ensures.looks _
    told.same told.stores told.counts
    c.in-Ok-verify_tree.ensures.durable told.saved c.new.ensures c.in-Ok-verify_tree.ensures.found)

pub returns-in-Ok-with_tables-clause-durable : goal.returns-in-Ok-with_tables-clause-durable
returns-in-Ok-with_tables-clause-durable g c =
    let told = c.in-Ok-with_tables.ensures in
    let fs : Fs g.row.D.Denot = record { alloc = c.args.alloc; store = c.in-Ok-with_tables.store; handles = c.new.result } in
    rw (← c.in-Ok.ensures.same) (durable_now g.D.SectorDevice.state c.in-Ok.device
    (g.met.D.SectorDevice.lawful c.in-Ok.device)
    c.in-Ok-verify_tree.ensures.looks fs told.same told.stores told.counts
    c.in-Ok-verify_tree.ensures.durable)

pub returns-in-Err-with_tables-clause-cause : goal.returns-in-Err-with_tables-clause-cause
returns-in-Err-with_tables-clause-cause g c =
    memory_fault (g.D.SectorDevice.state c.args.device)
    (g.D.SectorDevice.state c.in-Err-with_tables.fault.1)
    c.in-Err-with_tables.ensures.refused

pub returns-in-Err-with_tables-clause-reason : goal.returns-in-Err-with_tables-clause-reason
returns-in-Err-with_tables-clause-reason g c =
    memory_reason (g.D.SectorDevice.state c.args.device)
    (g.D.SectorDevice.state c.in-Err-with_tables.fault.1)
    c.in-Err-with_tables.ensures.refused

pub returns-in-Err-clause-cause : goal.returns-in-Err-clause-cause
returns-in-Err-clause-cause g c other =
    rw c.in-Err.ensures.same (c.in-Err.ensures.cause other)

pub returns-in-Err-verify_tree-clause-cause : goal.returns-in-Err-verify_tree-clause-cause
returns-in-Err-verify_tree-clause-cause g c other =
    rw (← c.in-Ok.ensures.same, c.into_inner.ensures) (c.in-Err-verify_tree.ensures.cause other)

pub returns-in-Ok-with_tables-clause-told : goal.returns-in-Ok-with_tables-clause-told
returns-in-Ok-with_tables-clause-told g c =
    let fs : Fs g.row.D.Denot = record { alloc = c.args.alloc; store = c.in-Ok-with_tables.store; handles = c.new.result } in
    rw (← c.in-Ok.ensures.same) (told_volume g.D.SectorDevice.state c.in-Ok.device fs c.in-Ok-verify_tree.ensures.looks
    c.in-Ok-with_tables.ensures.same)

pub returns-in-Err-with_tables-clause-told : goal.returns-in-Err-with_tables-clause-told
returns-in-Err-with_tables-clause-told g c =
    rw (← c.in-Ok.ensures.same, c.in-Err-with_tables.ensures.same)
    c.in-Ok-verify_tree.ensures.looks.told

pub returns-in-Err-verify_tree-clause-told : goal.returns-in-Err-verify_tree-clause-told
returns-in-Err-verify_tree-clause-told g c =
    rw (← c.in-Ok.ensures.same, c.into_inner.ensures) c.in-Err-verify_tree.ensures.looks.told

pub returns-in-Err-clause-told : goal.returns-in-Err-clause-told
returns-in-Err-clause-told g c = rw c.in-Err.ensures.same (omega arith)

pub returns-in-Err-clause-available : goal.returns-in-Err-clause-available
returns-in-Err-clause-available g c =
    let device = g.D.SectorDevice.state c.args.device in
    rw c.in-Err.ensures.same (available {old = device} {new = device} carries_none (omega arith) c.in-Err.fault.0
    c.in-Err.ensures.cause)

pub returns-in-Err-verify_tree-clause-available : goal.returns-in-Err-verify_tree-clause-available
returns-in-Err-verify_tree-clause-available g c =
    let looks = c.in-Err-verify_tree.ensures.looks in
    rw (← c.in-Ok.ensures.same, c.into_inner.ensures)
    (available looks.carries looks.told _ c.in-Err-verify_tree.ensures.cause)

pub returns-in-Err-with_tables-clause-available : goal.returns-in-Err-with_tables-clause-available
returns-in-Err-with_tables-clause-available g c = λ keeps s stands bears. c.in-Err-with_tables.ensures.refused
