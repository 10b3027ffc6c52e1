use Rattle.std.proofs.lemmas.Bool.{not-false, not-true}
use Rattle.lfs_model.proofs.Exits.{same_error}
use Rattle.lfs_verify.proofs.FaultCases.{same_fault}
use Rattle.lfs_verify.specs.declared.fault.MountFault.TheVariants as fault
use Rattle.lfs_verify.proofs.VerifySteps.{few_clean, has_tables, open_fault, refused_log}
use Rattle.lfs_verify.proofs.verify.verify.Goals as goal

pub returns-in_err-found-clause-reason : goal.returns-in_err-found-clause-reason
returns-in_err-found-clause-reason g c =
    same_error c.from_residual.result c.in_err-found.field-0.0 _ c.from_residual.ensures
    (refused_log (g.D.SectorDevice.state _) (g.D.SectorDevice.state _) c.in_err-found.field-0.0
    c.in_err-found.ensures.reason)

pub returns-in_err-found-clause-cause : goal.returns-in_err-found-clause-cause
returns-in_err-found-clause-cause g c =
    let new = g.D.SectorDevice.state _ in
    same_error c.from_residual.result c.in_err-found.field-0.0 _ c.from_residual.ensures
    (open_fault new (g.met.D.SectorDevice.lawful _) c.in_err-found.field-0.0
    (refused_log (g.D.SectorDevice.state _) new c.in_err-found.field-0.0 c.in_err-found.ensures.reason))

pub returns-in_err-found-clause-below_all : goal.returns-in_err-found-clause-below_all
returns-in_err-found-clause-below_all g c = λ low.
    let small = c.in_err-found.ensures.below_all low in
    let is = same_fault c.from_residual.result c.in_err-found.field-0.0 c.from_residual.ensures in
    let of = small.0 in (cc, small.1)

pub returns-then-not-found-clause-reason : goal.returns-then-not-found-clause-reason
returns-then-not-found-clause-reason g c =
    few_clean (g.D.SectorDevice.state _) (g.D.SectorDevice.state _)
    c.in_ok-found.ensures.found (not-true c.in_ok-found.found.enough_clean c.if-not-found.true)

pub returns-then-not-found-clause-cause : goal.returns-then-not-found-clause-cause
returns-then-not-found-clause-cause g c =
    let old = g.D.SectorDevice.state _ in
    let new = g.D.SectorDevice.state _ in
    open_fault new (g.met.D.SectorDevice.lawful _) (fault.Damaged 15)
    (few_clean old new c.in_ok-found.ensures.found (not-true c.in_ok-found.found.enough_clean c.if-not-found.true))

pub returns-clause-found : goal.returns-clause-found
returns-clause-found g c =
    has_tables (g.D.SectorDevice.state _) (g.D.SectorDevice.state _)
    c.in_ok-found.ensures.found (not-false c.in_ok-found.found.enough_clean c.if-not-found.false)
