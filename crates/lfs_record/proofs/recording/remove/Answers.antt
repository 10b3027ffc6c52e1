use Rattle.std.proofs.Common.{◌∙◌, ℕ, List, subst}
use Rattle.lfs_model.specs.Call.{Done, Unlink}
use Rattle.lfs_fs.specs.Seen.{answer_by, seen}
use Rattle.lfs_fs.specs.Volume.{Serves}
use Rattle.lfs_record.proofs.Recorded.{not_removed, removed}
use Rattle.lfs_record.proofs.recording.remove.Goals as goal

pub returns-in_default : goal.returns-in_default
returns-in_default g c = not_removed g.D.SectorDevice.state _ c.args.name.now

pub returns : goal.returns
returns g c =
    removed g.D.SectorDevice.state _ _ _ c.args.name.now c.unlink.result
    (subst (λ (p : List ℕ). Serves g.D.SectorDevice.state (seen c.args.fs.now) (seen c.unlink.new.self) (Unlink p)
    (answer_by (λ done. Done) c.unlink.result)) (c.as_slice.ensures.value ∙ c.in-Ok.ensures) c.unlink.ensures)
