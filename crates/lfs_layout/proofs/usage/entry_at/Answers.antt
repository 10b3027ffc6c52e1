use Rattle.lfs_model.proofs.UsagePlaces.{use_read}
use Rattle.lfs_layout.proofs.usage.entry_at.Goals as goal

pub returns : goal.returns
returns c = use_read c.args.place c.args.sector.now _ _ _ c.number16_at.ensures.read c.number16_at-2.ensures.read c.number32_at.ensures.read
