use Rattle.std.proofs.Common.{◌∷◌, ◌*◌, ℕ, List, ap, sym, ◌∙◌, is_ok, take, drop}
use Rattle.lfs_model.specs.declared.limits.TheConstants.{SECTOR_LEN}
use Rattle.lfs_device.specs.Event.{Called}
use Rattle.lfs_device.specs.HostCall.{Write}
use Rattle.lfs_device.specs.HostFile.{events}
use Rattle.lfs_device.proofs.RunBytes.{joined_sectors}
use Rattle.lfs_device.proofs.unsent.Unsent.send.Goals as goal

pub returns : goal.returns
returns c =
    let unsent = c.args.self.now in
    let done = is_ok c.write.result in
    let all = drop (SECTOR_LEN * unsent.ahead) unsent.bytes.items in
    c.write.ensures
    ∙ ap (λ (at : ℕ). Called (Write at (take (SECTOR_LEN * unsent.count) all) done) ∷ events c.args.file.now) c.offset.ensures
    ∙ ap (λ (bytes : List ℕ). Called (Write (SECTOR_LEN * unsent.first) bytes done) ∷ events c.args.file.now)
    (sym (joined_sectors SECTOR_LEN unsent.count all))
