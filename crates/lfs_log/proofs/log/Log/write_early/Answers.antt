use Rattle.lfs_memory.specs.inodes.Data.{data_count}
use Rattle.lfs_log.specs.Early.{full_chunk}
use Rattle.std.proofs.Common.{◌<◌, rules, arith, refl}
use Rattle.lfs_log.proofs.EarlyWrites.{early_halts, early_waits, writes_early}
use Rattle.lfs_log.proofs.log.Log.write_early.Goals as goal

pub returns-in-Ok-clause-done : goal.returns-in-Ok-clause-done
returns-in-Ok-clause-done g c =
    rw (← c.self.view_is) (writes_early c.in-Ok.ensures.done c.if-self.false c.in-Ok.ensures.reserve c.write_chunks.ensures.idle)

pub returns-in-Err-clause-halted : goal.returns-in-Err-clause-halted
returns-in-Err-clause-halted g c is ne = rw (← c.self.view_is) (early_halts c.in-Err.ensures.stopped refl refl refl)

pub invariant_of-self-in-Err : goal.invariant_of-self-in-Err
invariant_of-self-in-Err g c = (
  (λ on. absurd (cc)),
  rw c.drop_run.ensures tt,
  (λ on. absurd (cc)),
)

pub invariant_of-self : goal.invariant_of-self
invariant_of-self g c =
    let same = λ (few : data_count c.self.inside.memory.dirty < full_chunk). (c.write_chunks.ensures.idle few).1 in (
      (λ on. search (rules, arith)),
      rw c.drop_run.ensures tt,
      early_waits same c.self.invariant.2,
    )
