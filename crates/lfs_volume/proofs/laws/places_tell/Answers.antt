use Rattle.lfs_volume.proofs.Staying
use Rattle.lfs_volume.proofs.laws.places_tell.Goals as goal

pub returns : goal.returns
returns c = record { old = Staying.old_are_older; new = Staying.new_are_last }
