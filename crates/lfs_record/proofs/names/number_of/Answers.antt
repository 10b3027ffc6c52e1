use Rattle.std.proofs.Common.{◌≡◌, length, arith}
use Rattle.lfs_record.proofs.Digits.{number_is, same_lengths, name_pattern}
use Rattle.lfs_record.proofs.names.number_of.Goals as goal

pub returns-clause-value : goal.returns-clause-value
returns-clause-value c =
    let name = c.args.name.now in
    let long : length name ≡ 19 = same_lengths name_pattern name c.requires in
    let is = number_is name (omega (arith, long)) in
    let a = c.digit_at.ensures.value in
    let b = c.digit_at-2.ensures.value in
    let d = c.digit_at-3.ensures.value in
    let e = c.digit_at-4.ensures.value in
    let f = c.digit_at-5.ensures.value in
    let g = c.digit_at-6.ensures.value in
    let h = c.digit_at-7.ensures.value in
    let i = c.digit_at-8.ensures.value in
    omega (arith, is, a, b, d, e, f, g, h, i)
