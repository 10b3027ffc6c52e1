use Rattle.pansuyog_calls.proofs.Told.{looks_tell_nothing, refusals_tell_nothing}
use Rattle.lfs_volume.specs.Found.{by_volume}
use Rattle.pansuyog_calls.proofs.laws.readers_tell_nothing.Goals as goal

pub returns-clause-looks : goal.returns-clause-looks
returns-clause-looks g c = looks_tell_nothing (by_volume g.D.SectorDevice.state)

pub returns-clause-refused : goal.returns-clause-refused
returns-clause-refused g c = refusals_tell_nothing (by_volume g.D.SectorDevice.state)
