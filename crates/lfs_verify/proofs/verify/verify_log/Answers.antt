use Rattle.lfs_model.proofs.Exits.{same_error}
use Rattle.lfs_verify.proofs.FaultCases.{same_fault}
use Rattle.lfs_verify.proofs.VerifySteps.{check_refused, load_refused, log_found, only_then}
use Rattle.lfs_verify.proofs.Takes.{looks_none}
use Rattle.lfs_verify.proofs.verify.verify_log.Goals as goal

pub returns-in_err-checkpoint-clause-reason : goal.returns-in_err-checkpoint-clause-reason
returns-in_err-checkpoint-clause-reason g c =
    same_error c.from_residual.result c.in_err-checkpoint.field-0.0 _ c.from_residual.ensures c.in_err-checkpoint.ensures.reason

pub returns-in_err-checkpoint-clause-below_all : goal.returns-in_err-checkpoint-clause-below_all
returns-in_err-checkpoint-clause-below_all g c = λ low.
    let small = c.in_err-checkpoint.ensures.below_all low in
    let is = same_fault c.from_residual.result c.in_err-checkpoint.field-0.0 c.from_residual.ensures in
    let of = small.0 in (cc, small.1)

pub returns-in_err-walked-clause-reason : goal.returns-in_err-walked-clause-reason
returns-in_err-walked-clause-reason g c =
    same_error c.from_residual-in_err-walked.result c.in_err-walked.field-0.0 _ c.from_residual-in_err-walked.ensures (check_refused
    c.find_checkpoint.ensures.looks c.check.ensures.keeps.looks
    (looks_none (g.met.D.SectorDevice.lawful _)) c.in_ok-checkpoint.ensures.found
    c.in_err-walked.field-0.0 c.in_err-walked.ensures.reason)

pub returns-in_err-tables-clause-reason : goal.returns-in_err-tables-clause-reason
returns-in_err-tables-clause-reason g c =
    same_error c.from_residual-in_err-tables.result c.in_err-tables.field-0.0 _ c.from_residual-in_err-tables.ensures (load_refused
    c.find_checkpoint.ensures.looks c.check.ensures.keeps.looks c.load_tables.ensures.looks c.in_ok-checkpoint.ensures.found
    c.in_ok-walked.ensures.holds c.in_err-tables.ensures.cause)

pub returns-clause-found : goal.returns-clause-found
returns-clause-found g c =
    log_found c.find_checkpoint.ensures.looks c.check.ensures.keeps.looks c.load_tables.ensures.looks c.in_ok-checkpoint.ensures.found
    c.in_ok-walked.ensures.holds c.in_ok-checkpoint.ensures.fits c.in_ok-tables.ensures.says c.in_ok-tables.ensures.totals

pub returns-clause-durable : goal.returns-clause-durable
returns-clause-durable g c =
    only_then c.find_checkpoint.ensures.looks c.check.ensures.keeps.looks c.load_tables.ensures.looks c.in_ok-checkpoint.ensures.found
    c.in_ok-walked.ensures.holds c.in_ok-checkpoint.ensures.durable
