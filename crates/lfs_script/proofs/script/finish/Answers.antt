use Rattle.lfs_script.proofs.ScriptTurns.{finish_done, finish_end, finish_none}
use Rattle.lfs_script.proofs.script.finish.Goals as goal

pub returns-then-is_empty-clause-finishes : goal.returns-then-is_empty-clause-finishes
returns-then-is_empty-clause-finishes g c =
    finish_none g.D.SectorDevice.state c.args.strict _ _ c.args.line.now c.args.count _ c.if-is_empty.ensures

pub returns-in-Some-clause-finishes : goal.returns-in-Some-clause-finishes
returns-in-Some-clause-finishes g c = finish_end g.D.SectorDevice.state c.args.strict c.in-Some.end _ _ _ c.args.count _
    c.if-is_empty.ensures c.in-Some.ensures.turns c.turn.ensures.glances

pub returns-in-None-clause-finishes : goal.returns-in-None-clause-finishes
returns-in-None-clause-finishes g c = finish_done g.D.SectorDevice.state c.args.strict _ _ _ c.args.count _
    c.if-is_empty.ensures c.in-None.ensures.turns c.turn.ensures.glances
