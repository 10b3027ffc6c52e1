use Rattle.lfs_memory.proofs.Located.{no_double}
use Rattle.lfs_memory.proofs.present.locate_double.Goals as goal

pub returns-then-number-eq0-clause-answer : goal.returns-then-number-eq0-clause-answer
returns-then-number-eq0-clause-answer g c =
    no_double _ _ c.if-number-eq0.true

pub returns-clause-answer : goal.returns-clause-answer
returns-clause-answer g c =
    rw c.double.ensures at c.locate.ensures.answer
