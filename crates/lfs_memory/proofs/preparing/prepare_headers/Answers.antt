use Rattle.std.proofs.Common.{sym}
use Rattle.lfs_memory.proofs.CutEdges.{passed_on}
use Rattle.lfs_memory.proofs.Prepared.{headers_next, headers_fault, headers_excused}
use Rattle.lfs_memory.proofs.preparing.prepare_headers.Goals as goal

pub returns-in_err-prepare_header-clause-prepares : goal.returns-in_err-prepare_header-clause-prepares
returns-in_err-prepare_header-clause-prepares g c =
    headers_fault (g.met.D.SectorDevice.lawful _) c.loop-edit-test.true (sym c.edit-item.is) c.loop-edit.invariant
    c.prepare_header.ensures.prepares

pub returns-in_err-prepare_header-clause-failed : goal.returns-in_err-prepare_header-clause-failed
returns-in_err-prepare_header-clause-failed g c is =
    headers_excused (g.met.D.SectorDevice.lawful _) c.loop-edit-test.true (sym c.edit-item.is) c.loop-edit.invariant
    c.prepare_header.ensures.prepares (c.in_err-prepare_header.ensures.ends.failed
    (passed_on c.from_residual.result c.in_err-prepare_header.field-0.0 _ c.from_residual.ensures is))

pub loop-edit-preserved : goal.loop-edit-preserved
loop-edit-preserved g c =
    headers_next (g.met.D.SectorDevice.lawful _) c.loop-edit-test.true (sym c.edit-item.is) c.loop-edit.invariant
    c.prepare_header.ensures.prepares c.in_ok-prepare_header.ensures.ready c.in_ok-prepare_header.ensures.ends.no_failure
