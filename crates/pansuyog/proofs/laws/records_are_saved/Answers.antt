use Rattle.pansuyog.proofs.Sessions.{carrying_tends, records_are_saved}
use Rattle.pansuyog.proofs.laws.records_are_saved.Goals as goal

pub returns-clause-saved : goal.returns-clause-saved
returns-clause-saved c = records_are_saved c.records_are_saved.ensures

pub returns-clause-tends : goal.returns-clause-tends
returns-clause-tends c = carrying_tends
