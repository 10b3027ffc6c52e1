use Rattle.lfs_model.proofs.Exits.{same_error}
use Rattle.lfs_verify.proofs.UsageLoads.{fault_then}
use Rattle.lfs_verify.proofs.tables.load_tables.Goals as goal

pub returns-in_err-load_map-clause-cause : goal.returns-in_err-load_map-clause-cause
returns-in_err-load_map-clause-cause g c =
    let e = c.in_err-load_map.field-0.0 in
    same_error c.from_residual-in_err-load_map.result e _ c.from_residual-in_err-load_map.ensures
    (λ other. fault_then (g.D.SectorDevice.state _) _ c.in_ok-load_usage.ensures.keeps.looks e
    c.in_err-load_map.ensures.cause)
