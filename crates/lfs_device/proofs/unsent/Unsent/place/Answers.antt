use Rattle.std.proofs.Common.{rules, take_at, ◌≡◌, ◌+◌, ◌*◌, ◌++◌, ◌∙◌, ℕ, List, length, take, drop, ap, arith}
use Rattle.lfs_model.specs.declared.limits.TheConstants.{SECTOR_LEN}
use Rattle.lfs_device.proofs.RunBytes.{placed_behind}
use Rattle.lfs_device.proofs.unsent.Unsent.place.Goals as goal

pub returns-clause-placed : goal.returns-clause-placed
returns-clause-placed c =
    let self = c.args.self.now in
    let at = SECTOR_LEN * (self.ahead + c.args.index) in
    let long : length c.args.bytes.now ≡ SECTOR_LEN = search rules in
    let size : length c.copy_to.new.all ≡ self.bytes.len = c.copy_to.ensures.len ∙ c.as_mut_slice.ensures.len in
    let few = c.requires.few in let whole = self.whole in
    placed_behind SECTOR_LEN c.args.bytes.now long self.count c.max-self.result self.ahead c.args.index self.bytes.items
    (take_at c.copy_to.new.all _ self.bytes.len size ∙ c.copy_to.ensures.put
    ∙ ap (λ (all : List ℕ). take at all ++ c.args.bytes.now ++ drop (at + SECTOR_LEN) all) c.as_mut_slice.ensures.value)
    c.max-self.ensures c.requires.next (omega (arith, few, whole))
