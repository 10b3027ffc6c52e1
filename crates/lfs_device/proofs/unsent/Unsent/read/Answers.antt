use Rattle.std.proofs.Common.{◌≡◌, ◌<◌, ◌+◌, ◌*◌, ◌-◌, ℕ, List, take, drop, drop-drop, ap, sym, ◌∙◌, arith}
use Rattle.lfs_model.specs.declared.limits.TheConstants.{SECTOR_LEN}
use Rattle.lfs_device.proofs.RunBytes.{length_sectors, sector_at}
use Rattle.lfs_device.proofs.unsent.Unsent.read.Goals as goal

pub copy_from-requires : goal.copy_from-requires
copy_from-requires c =
    let self = c.args.self.now in
    let many = length_sectors SECTOR_LEN self.count (drop (SECTOR_LEN * self.ahead) self.bytes.items) in
    omega (arith, many, c.requires.few, c.requires.has.low, c.requires.has.high, c.as_slice.ensures.len, self.whole)

pub returns : goal.returns
returns c =
    let self = c.args.self.now in
    let index = c.args.sector - self.first in
    let places = drop (SECTOR_LEN * self.ahead) self.bytes.items in
    let many = length_sectors SECTOR_LEN self.count places in
    let low : index < self.count = omega (arith, many, c.requires.has.low, c.requires.has.high) in
    let parts : SECTOR_LEN * (self.ahead + index) ≡ SECTOR_LEN * self.ahead + SECTOR_LEN * index = omega arith in
    c.copy_from.ensures
    ∙ ap (λ (bytes : List ℕ). take SECTOR_LEN (drop (SECTOR_LEN * (self.ahead + index)) bytes)) c.as_slice.ensures.value
    ∙ ap (λ (n : ℕ). take SECTOR_LEN (drop n self.bytes.items)) parts
    ∙ ap (λ (bytes : List ℕ). take SECTOR_LEN bytes) (sym (drop-drop (SECTOR_LEN * index) (SECTOR_LEN * self.ahead) self.bytes.items))
    ∙ sym (sector_at SECTOR_LEN self.count index places low)
