use Rattle.std.proofs.Common.{rules, arith, refl}
use Rattle.lfs_log.proofs.LogReads.{reads_none, still_read}
use Rattle.lfs_log.proofs.Passes.{cleans, may_begin, pass_refused}
use Rattle.lfs_log.proofs.Volumes.{halts}
use Rattle.lfs_log.proofs.log.Log.vacate.Goals.{then-self-2-via-then-self-2, then-self-2-via-else-self-2+then-not-may_clean}
use Rattle.lfs_log.proofs.log.Log.vacate.Goals as goal

pub returns-then-self-2-clause-kept : goal.returns-then-self-2-clause-kept
returns-then-self-2-clause-kept g c never =
    still_read _ (g.met.D.SectorDevice.lawful c.args.self.now.device) (reads_none _ c.args.self.now)

pub returns-then-self-2-clause-lacks : goal.returns-then-self-2-clause-lacks
returns-then-self-2-clause-lacks g c = rw (← c.self.view_is) (λ is may low. elim c.then-self-2.branch [
  | then-self-2-via-then-self-2 w ↦ absurd (search (rules, arith))
  | then-self-2-via-else-self-2+then-not-may_clean w ↦ absurd (w.may_clean.ensures.no (search rules) (may_begin _ may))
])

pub returns-in-Err-Halted-clause-halted : goal.returns-in-Err-Halted-clause-halted
returns-in-Err-Halted-clause-halted g c is ne =
    rw (← c.self.view_is) (halts (c.in-Err-Halted.ensures.ends.halted (search rules)) refl refl refl)

pub returns-in-Err-clause-kept : goal.returns-in-Err-clause-kept
returns-in-Err-clause-kept g c never =
    let ready = c.self.invariant.0 c.if-self.false in
    rw (← c.self.view_is) (pass_refused (g.met.D.SectorDevice.lawful c.empty_segments.new.device) c.end_last.ensures ready.running.memory
    ready.running.closed (c.in-Err.ensures.ends.stays never))

pub returns-in-Err-clause-lacks : goal.returns-in-Err-clause-lacks
returns-in-Err-clause-lacks g c = rw (← c.self.view_is) (λ is may low k m0 m keeps holds map.
    c.in-Err.ensures.ends.full is k m0 m keeps holds.log map)

pub returns-in-Err-clause-failed : goal.returns-in-Err-clause-failed
returns-in-Err-clause-failed g c = rw (← c.self.view_is) (λ is k m0 m keeps holds.
    c.in-Err.ensures.ends.failed is k m0 m keeps holds.log tt)

pub returns-clause-done : goal.returns-clause-done
returns-clause-done g c =
    let ready = c.self.invariant.0 c.if-self.false in
    let may = c.if-not-may_clean.ensures.yes (search rules) in
    rw (← c.self.view_is, c.take_tables.ensures.memory)
    (cleans may.nothing ready.running.closed c.if-self.false c.in-Ok.ensures.ends.done)
