use Rattle.lfs_script.proofs.ScriptTurns.{not_refused, plain_run}
use Rattle.lfs_script.proofs.script.run.Goals as goal

pub returns : goal.returns
returns g c = plain_run _ _ _ _ _ _ c.in-Script.is c.run_noted.ensures.ends.ends

pub unreachable-requires : goal.unreachable-requires
unreachable-requires g c = not_refused _ _ _ _ _ _ c.in-Refused.is c.run_noted.ensures.ends.ends
