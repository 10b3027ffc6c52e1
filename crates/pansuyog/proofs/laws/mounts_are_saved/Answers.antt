use Rattle.pansuyog.proofs.CallsInARow.{mounts_are_saved}
use Rattle.pansuyog.proofs.laws.mounts_are_saved.Goals as goal

pub returns : goal.returns
returns c = mounts_are_saved
