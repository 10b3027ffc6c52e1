use Rattle.lfs_record.proofs.Digits.{unlike_lengths}
use Rattle.lfs_record.proofs.names.fits.Goals as goal

pub returns-then-pattern-text : goal.returns-then-pattern-text
returns-then-pattern-text c = unlike_lengths _ _ c.if-pattern-text.true
