use Rattle.std.proofs.Common.{rules, ◌≡◌, ◌<◌, ◌-◌, arith, true, false, T, length}
use Rattle.std.specs.Ordering.{nat_cmp}
use Rattle.std.specs.FinMap.{is_sorted}
use Rattle.lfs_inodes.specs.Blocks.{number_at}
use Rattle.lfs_inodes.specs.Data.{is_data_code}
use Rattle.lfs_inodes.proofs.Data.{has_data, lacks_data}
use Rattle.lfs_inodes.proofs.table.DirtyTable.has_data.Goals as goal

pub returns-then-count-len-clause-yes : goal.returns-then-count-len-clause-yes
returns-then-count-len-clause-yes c = λ h.
    let sorted : T (is_sorted nat_cmp c.args.self.now.blocks) = c.len.ensures.sorted in
    let some = c.requires in
    let inside : c.args.count - 1 < length c.args.self.now.blocks = search (rules, arith) in
    let is : is_data_code (number_at c.args.self.now.blocks (c.args.count - 1)) ≡ true = search rules in
    let has = has_data c.args.self.now sorted (c.args.count - 1) inside is in
    omega (arith, has, some)

pub returns-then-count-len-clause-no : goal.returns-then-count-len-clause-no
returns-then-count-len-clause-no c = λ h.
    let sorted : T (is_sorted nat_cmp c.args.self.now.blocks) = c.len.ensures.sorted in
    let is : is_data_code (number_at c.args.self.now.blocks (c.args.count - 1)) ≡ false = search rules in
    omega (arith, lacks_data c.args.self.now sorted (c.args.count - 1) (λ lt. is))

pub returns-else-count-len-clause-no : goal.returns-else-count-len-clause-no
returns-else-count-len-clause-no c = λ h.
    let sorted : T (is_sorted nat_cmp c.args.self.now.blocks) = c.len.ensures.sorted in
    let past : length c.args.self.now.blocks < c.args.count = search (rules, arith) in
    omega (arith, lacks_data c.args.self.now sorted (c.args.count - 1) (λ lt. absurd (omega arith)))
