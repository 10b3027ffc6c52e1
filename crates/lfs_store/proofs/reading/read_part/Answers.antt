use Rattle.std.proofs.Common.{◌+◌, ◌≡◌, ◌≤◌, arith}
use Rattle.lfs_store.proofs.Endings.{exit_is}
use Rattle.lfs_cleaner.proofs.of_log.LogReads.{fault_more}
use Rattle.lfs_store.proofs.ReadParts.{read_more, reads_part}
use Rattle.lfs_store.proofs.reading.read_part.Goals as goal

pub loop-at-preserved : goal.loop-at-preserved
loop-at-preserved g c =
    let within : c.loop-at.at + c.min-len.result ≤ c.args.to = omega arith in (
      within,
      read_more _ (g.met.D.SectorDevice.lawful _) c.loop-at.invariant.1 c.append.ensures.reads c.in_ok-append.ensures.done,
    )

pub returns-in_err-append-clause-failed : goal.returns-in_err-append-clause-failed
returns-in_err-append-clause-failed g c =
    rw (exit_is c.from_residual.ensures)
    (λ other. fault_more _ c.append.new.log c.loop-at.invariant.1.reads (c.in_err-append.ensures.failed other))

pub returns-clause-answer : goal.returns-clause-answer
returns-clause-answer g c =
    let at_end : c.loop-at.at ≡ c.args.to = omega arith in
    reads_part _ (rw at_end at c.loop-at.invariant.1)
