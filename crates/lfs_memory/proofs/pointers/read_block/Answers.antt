use Rattle.lfs_memory.proofs.Presents.{block_absent, block_answered, block_failed, looks_failed, looks_then}
use Rattle.lfs_memory.proofs.PointerRuns.{run_still}
use Rattle.lfs_memory.proofs.pointers.read_block.Goals as goal

pub returns-then-address-eq0-clause-answer : goal.returns-then-address-eq0-clause-answer
returns-then-address-eq0-clause-answer g c k m0 m keeps is =
    block_absent (g.D.SectorDevice.state c.args.device.now) (g.D.SectorDevice.state c.find_by_run.new.device) c.args.memory.now
    c.args.number c.args.index c.in_ok-address.ensures.finds.answer c.if-address-eq0.true k m0 m keeps is

pub returns-clause-answer : goal.returns-clause-answer
returns-clause-answer g c =
    block_answered _ _ c.in_ok-address.ensures.finds.looks.looks c.read_present.ensures.ends.looks c.data-key.ensures
    c.in_ok-address.ensures.finds.answer c.if-address-eq0.false c.in_ok-read_present.ensures.read

pub returns-in_err-read_present-clause-looks : goal.returns-in_err-read_present-clause-looks
returns-in_err-read_present-clause-looks g c =
    looks_failed c.from_residual-in_err-read_present.ensures.0
    (looks_then (g.met.D.SectorDevice.lawful _) c.in_ok-address.ensures.finds.looks.looks c.read_present.ensures.ends.looks)
    (block_failed _ _ c.in_ok-address.ensures.finds.looks.looks c.read_present.ensures.ends.looks
    c.data-key.ensures c.in_ok-address.ensures.finds.answer c.if-address-eq0.false c.in_err-read_present.ensures.ends.unread)

pub returns-clause-kept : goal.returns-clause-kept
returns-clause-kept g c =
    run_still _ _ c.read_present.ensures.ends.looks c.find_by_run.ensures.kept

pub returns-in_err-read_present-clause-kept : goal.returns-in_err-read_present-clause-kept
returns-in_err-read_present-clause-kept g c =
    run_still _ _ c.read_present.ensures.ends.looks c.find_by_run.ensures.kept
