use Rattle.std.proofs.Common.{◌≤◌, arith, slice_index}
use Rattle.lfs_record.proofs.Digits.{digit_bounds, digit_in}
use Rattle.lfs_record.proofs.names.digit_at.Goals as goal

pub overflow_sub-name : goal.overflow_sub-name
overflow_sub-name c =
    (digit_bounds (slice_index c.args.name.now c.args.place) (digit_in c.args.name.now c.args.place c.requires.named c.requires.place)).0

pub returns-clause-few : goal.returns-clause-few
returns-clause-few c =
    let b = slice_index c.args.name.now c.args.place in
    let low : b ≤ 57 = (digit_bounds b (digit_in c.args.name.now c.args.place c.requires.named c.requires.place)).1 in
    let is = c.from.ensures in
    omega (arith, low, is)
