use Rattle.std.proofs.Common.{refl}
use Rattle.lfs_log.proofs.Opens.{opened_log, ready}
use Rattle.lfs_log.proofs.log.Log.with_tables.Goals as goal

pub returns-in-Ok-open_memory-clause-opened : goal.returns-in-Ok-open_memory-clause-opened
returns-in-Ok-open_memory-clause-opened g c =
    let told = c.in-Ok-open_memory.ensures in
    opened_log g.D.SectorDevice.state _ (g.met.D.SectorDevice.lawful c.args.device)
    c.requires.units c.requires.durable c.requires.loaded c.requires.found
    (told.opened _ c.requires.loaded) told.usage told.map c.new-version.ensures told.number refl refl refl told.data_blocks told.meta_blocks

pub invariant_of-result : goal.invariant_of-result
invariant_of-result g c =
    let d = g.D.SectorDevice.state c.args.device in
    let told = c.in-Ok-open_memory.ensures in
    let is = told.opened d.size c.requires.loaded in (
      (λ on. ready d is told.pass),
      tt,
      (λ all. record { blocks = is.dirty; version = refl; sectors = rw told.usage c.requires.loaded.usage.untaken }),
    )
