use Rattle.std.proofs.Common.{◌≡◌, length, drop}
use Rattle.lfs_record.specs.Names.{fits}
use Rattle.lfs_record.proofs.names.fits.Given as goal

abbrev pub invariant-loop-place : goal.invariant-loop-place
invariant-loop-place l = (length l.pattern ≡ length l.text)
    × (fits l.pattern l.text ≡ fits (drop l.place l.pattern) (drop l.place l.text))
