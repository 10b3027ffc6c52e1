use Rattle.std.proofs.Common.{inl, inr, refl}
use Rattle.lfs_replies.specs.Answers.{result_of}
use Rattle.lfs_words.specs.Bytes.{AppendsSome}
use Rattle.lfs_script.proofs.ScriptTurns.{called, glances_called, glances_never, turned}
use Rattle.lfs_script.proofs.Writing.{writes_decided}
use Rattle.lfs_script.proofs.script.turn.Goals as goal

pub returns-in_default-clause-turns : goal.returns-in_default-clause-turns
returns-in_default-clause-turns g c = inr (c.in_default.ensures.0, c.refuse.ensures.replies, c.in_default.ensures.1)

pub returns-in_default-clause-glances : goal.returns-in_default-clause-glances
returns-in_default-clause-glances g c = glances_never g.D.SectorDevice.state _ _ _ c.in_default.ensures.0

pub returns-in-Ok-clause-turns : goal.returns-in-Ok-clause-turns
returns-in-Ok-clause-turns g c =
    turned g.D.SectorDevice.state c.decide.result c.args.strict _ _ _ _ c.args.line.now c.args.count
    (result_of c.in-Some.answer) c.in-Some.ensures c.in-Ok.ensures.ok c.decide.ensures

pub returns-in-Ok-clause-glances : goal.returns-in-Ok-clause-glances
returns-in-Ok-clause-glances g c = glances_called g.D.SectorDevice.state _
    (result_of c.in-Some.answer) _ _ _ c.in-Some.ensures c.device.ensures c.glance.ensures.glances

pub returns-clause-turns : goal.returns-clause-turns
returns-clause-turns g c = inl (
  refl,
  called g.D.SectorDevice.state (AppendsSome (g.W.Write.contents c.args.writer.now)
      (g.W.Write.contents c.put_reply.new.writer)) _ _ c.args.line.now (result_of c.in-Some.answer) c.in-Some.ensures c.in-Err.ensures.err,
)

pub returns-clause-glances : goal.returns-clause-glances
returns-clause-glances g c = glances_called g.D.SectorDevice.state _
    (result_of c.in-Some.answer) _ _ _ c.in-Some.ensures c.device.ensures c.glance.ensures.glances

pub returns-in-Ok-clause-writes : goal.returns-in-Ok-clause-writes
returns-in-Ok-clause-writes g c =
    writes_decided c.args.strict c.decide.result (result_of c.in-Some.answer) c.decide.ensures c.in-Ok.ensures.counted
