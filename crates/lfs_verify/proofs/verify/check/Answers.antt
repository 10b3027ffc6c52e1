use Rattle.std.proofs.Common.{refl, sym, subst}
use Rattle.lfs_verify.specs.declared.fault.WalkFault.{WalkFault}
use Rattle.lfs_verify.specs.Codes.{FaultIs}
use Rattle.lfs_verify.proofs.VerifySteps.{first_damage, holds_counted, read_content}
use Rattle.lfs_verify.proofs.verify.check.Goals as goal

pub returns-in-Err-Damaged-clause-reason : goal.returns-in-Err-Damaged-clause-reason
returns-in-Err-Damaged-clause-reason g c = λ found keeps.
    let old = g.D.SectorDevice.state c.args.device.now in
    let new = g.D.SectorDevice.state c.walk.new.device in
    let lawful = g.met.D.SectorDevice.lawful c.args.device.now in
    let code = c.in-Err-Damaged.stage in
    let is = subst (λ (e : WalkFault). FaultIs e code) (sym c.in-Err-Damaged.field-0-is) refl in
    first_damage new lawful c.args.checkpoint.now c.requires.inside keeps (found keeps) code (c.in-Err-Damaged.ensures.keeps.low code is)
    (c.in-Err-Damaged.ensures.damaged old.content (read_content new lawful c.args.checkpoint.now c.requires.inside keeps) code is)

pub returns-in-Ok-clause-holds : goal.returns-in-Ok-clause-holds
returns-in-Ok-clause-holds g c = λ keeps.
    let old = g.D.SectorDevice.state _ in
    let new = g.D.SectorDevice.state _ in
    let lawful = g.met.D.SectorDevice.lawful _ in
    let k = c.args.checkpoint.now in
    let read = read_content new lawful k c.requires.inside keeps in
    holds_counted new lawful k c.requires.inside keeps (c.in-Ok.ensures.holds old.content read) (c.in-Ok.ensures.counts old.content read)
