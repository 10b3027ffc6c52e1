use Rattle.std.proofs.Common.{◌%◌, ap}
use Rattle.lfs_model.specs.Checkpoint.{CheckpointValue}
use Rattle.lfs_root.proofs.Slots.{one_of, one_at_each_moment, next_alone, on_ok}
use Rattle.lfs_root.proofs.replace.Goals as goal

pub returns-clause-newest : goal.returns-clause-newest
returns-clause-newest g c apart last all follows same_kind =
    one_at_each_moment _ _ last _ _ (ap (λ (v : CheckpointValue). v.number % 2) c.checkpoint.view_is) c.encode.ensures c.requires.fits
    (g.met.D.SectorDevice.lawful c.args.device.now) c.requires.size all follows same_kind apart c.write_durably.ensures.any_moment

pub returns-clause-left_newest : goal.returns-clause-left_newest
returns-clause-left_newest g c apart last all follows same_kind x left =
    one_of _ (g.D.SectorDevice.state c.write_durably.new.device) last _ _
    (ap (λ (v : CheckpointValue). v.number % 2) c.checkpoint.view_is) c.encode.ensures c.requires.fits
    (g.met.D.SectorDevice.lawful c.args.device.now) c.requires.size all follows same_kind apart x (c.write_durably.ensures.left x left)

pub returns-clause-acknowledged : goal.returns-clause-acknowledged
returns-clause-acknowledged g c =
    on_ok c.write_durably.result _ _ _
    (λ content only last keeps all follows same_kind.
    next_alone _ (g.D.SectorDevice.state c.write_durably.new.device) last _ _
    (ap (λ (v : CheckpointValue). v.number % 2) c.checkpoint.view_is) c.encode.ensures c.requires.fits
    (g.met.D.SectorDevice.lawful c.args.device.now) c.requires.size all follows same_kind
    (c.write_durably.ensures.carries.kept_before keeps) (content keeps) (only keeps))
    c.write_durably.ensures.content c.write_durably.ensures.durable
