use Rattle.std.proofs.Common.{refl}
use Rattle.lfs_record.proofs.Spelling.{name_made, number_made}
use Rattle.lfs_record.proofs.laws.names_are_numbered.Goals as goal

pub returns : goal.returns
returns c = λ number day low is. (name_made number day is, number_made number day low, refl)
