use Rattle.pansuyog.proofs.CallsInARow.{calls_are_kept}
use Rattle.pansuyog.proofs.laws.calls_are_kept.Goals as goal

pub returns : goal.returns
returns c = calls_are_kept
