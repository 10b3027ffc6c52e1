use Rattle.std.proofs.Common.{rules, take_at, ◌≡◌, ◌*◌, ◌++◌, ◌∷◌, ◌∙◌, ℕ, List, length, take, drop, ap, sym}
use Rattle.lfs_model.specs.declared.limits.TheConstants.{SECTOR_LEN}
use Rattle.lfs_device.specs.Runs.{sectors_in}
use Rattle.lfs_device.proofs.RunBytes.{put_ahead}
use Rattle.lfs_device.proofs.unsent.Unsent.put_before.Goals as goal

pub returns-clause-put : goal.returns-clause-put
returns-clause-put c =
    let self = c.args.self.now in
    let long : length c.args.bytes.now ≡ SECTOR_LEN = search rules in
    let size : length c.copy_to.new.all ≡ self.bytes.len = c.copy_to.ensures.len ∙ c.as_mut_slice.ensures.len in
    put_ahead SECTOR_LEN c.args.bytes.now long self.count self.bytes.items
    (take_at c.copy_to.new.all _ self.bytes.len size ∙ c.copy_to.ensures.put
    ∙ ap (λ (all : List ℕ). take 0 all ++ c.args.bytes.now ++ drop SECTOR_LEN all) c.as_mut_slice.ensures.value)
    ∙ ap (λ (n : ℕ). c.args.bytes.now ∷ sectors_in SECTOR_LEN self.count (drop (SECTOR_LEN * n) self.bytes.items)) (sym c.requires.room)
