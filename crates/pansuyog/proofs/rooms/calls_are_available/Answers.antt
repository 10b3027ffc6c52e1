use Rattle.pansuyog.proofs.Available.{available}
use Rattle.pansuyog.proofs.rooms.calls_are_available.Goals as goal

pub returns : goal.returns
returns c = available
