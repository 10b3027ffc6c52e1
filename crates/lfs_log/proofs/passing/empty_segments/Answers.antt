use Rattle.std.proofs.Common.{length}
use Rattle.lfs_log.specs.Brought.{AreAllOut}
use Rattle.lfs_log.specs.Cleaning.{most_brought}
use Rattle.lfs_log.specs.Moving.{HasMoved}
use Rattle.lfs_log.proofs.Passes.{ends_cleaned, ends_stopped, pass_done, pass_fails, pass_stopped}
use Rattle.lfs_log.proofs.Passes.{spared_left, told_done}
use Rattle.lfs_log.proofs.passing.empty_segments.Goals as goal

pub returns-in-Err-clause-ends : goal.returns-in-Err-clause-ends
returns-in-Err-clause-ends g c =
    pass_fails {w = c.vacate.new.pass} {vs = c.args.victims.now} c.begin_pass.ensures c.requires.may c.requires.closed
    {S = Unit {0}} {R = AreAllOut c.args.victims.now} (g.met.D.SectorDevice.lawful c.args.device.now)
    (g.met.D.SectorDevice.lawful c.vacate.new.device) c.in-Err.fault (rw (← c.most_of-most.ensures) c.in-Err.ensures.ends)

pub save_open-requires-clause-spare : goal.save_open-requires-clause-spare
save_open-requires-clause-spare g c =
    spared_left {a = g.D.SectorDevice.state c.args.device.now} {b = g.D.SectorDevice.state c.vacate.new.device}
    {w = c.vacate.new.pass} {vs = c.args.victims.now} c.begin_pass.ensures c.requires.may c.requires.closed
    (rw (← c.most_of-most.ensures) (c.in-Ok.ensures.ends.moves (λ is. absurd (cc)))) c.in-Ok.ensures.nothing c.requires.apart
    c.in-Ok.ensures.emptied

pub returns-in-Ok-save_open-clause-ends : goal.returns-in-Ok-save_open-clause-ends
returns-in-Ok-save_open-clause-ends g c =
    let a = g.D.SectorDevice.state c.args.device.now in
    let b = g.D.SectorDevice.state c.vacate.new.device in
    let moved : HasMoved a b c.begin_pass.new.pass c.vacate.new.pass (most_brought (length c.args.victims.now)) 0 =
    rw (← c.most_of-most.ensures) (c.in-Ok.ensures.ends.moves (λ is. absurd (cc))) in
    ends_cleaned
    (pass_done c.begin_pass.ensures c.requires.may c.requires.closed moved c.in-Ok.ensures.nothing c.requires.apart
    c.in-Ok.ensures.emptied c.in-Ok.ensures.ends.no_failure c.in-Ok-save_open.ensures.done)
    (told_done c.begin_pass.ensures c.requires.may c.requires.closed moved c.in-Ok.ensures.nothing c.in-Ok-save_open.ensures.done)

pub returns-in-Err-save_open-clause-ends : goal.returns-in-Err-save_open-clause-ends
returns-in-Err-save_open-clause-ends g c =
    let a = g.D.SectorDevice.state c.args.device.now in
    let b = g.D.SectorDevice.state c.vacate.new.device in
    let moved : HasMoved a b c.begin_pass.new.pass c.vacate.new.pass (most_brought (length c.args.victims.now)) 0 =
    rw (← c.most_of-most.ensures) (c.in-Ok.ensures.ends.moves (λ is. absurd (cc))) in
    ends_stopped (pass_stopped c.begin_pass.ensures c.requires.may c.requires.closed moved c.in-Ok.ensures.nothing
    c.in-Err-save_open.ensures.stopped)
