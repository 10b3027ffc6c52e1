use Rattle.std.proofs.Common.{◌+◌, ◌-◌, ◌≤◌, ◌≡◌, ℕ, List, length, take, ap, subst, sym, ◌∙◌, arith}
use Rattle.lfs_model.specs.Checkpoint.{usage_blocks}
use Rattle.lfs_model.specs.Image.{first_names, first_used}
use Rattle.lfs_model.specs.Summary.{BlockNameValue, FitsSummary, summary_sector}
use Rattle.lfs_format.proofs.FirstSectors.{named, fits_first_names, placed_names}
use Rattle.lfs_format.proofs.image.summary_block.Goals as goal

pub encode_summary-requires : goal.encode_summary-requires
encode_summary-requires c =
    let N : ℕ = c.args.segments in
    let p : ℕ = c.args.unit_power in
    let names : List BlockNameValue = c.loop-index.names in
    let used = c.first_used.ensures in
    let most : usage_blocks N ≤ 16 = omega arith in
    let count : length names ≡ 63 = c.loop-index.invariant.count in
    let least : 3 + usage_blocks N ≤ first_used N p = omega (arith, used.value, used.least) in
    let high : first_used N p ≤ 64 = omega (arith, used.value, used.most) in
    let is : take (first_used N p - 1) names ≡ first_names N p = named N p names (omega (arith, high, count))
    (λ k lt. c.loop-index.invariant.names k (omega (arith, lt, high))) in
    subst FitsSummary (sym is ∙ ap (λ n. take (n - 1) names) (sym used.value)) (fits_first_names N p least high (placed_names N most))

pub returns : goal.returns
returns c =
    let N : ℕ = c.args.segments in
    let p : ℕ = c.args.unit_power in
    let names : List BlockNameValue = c.loop-index.names in
    let used = c.first_used.ensures in
    let count : length names ≡ 63 = c.loop-index.invariant.count in
    let high : first_used N p ≤ 64 = omega (arith, used.value, used.most) in
    let is : take (first_used N p - 1) names ≡ first_names N p = named N p names (omega (arith, high, count))
    (λ k lt. c.loop-index.invariant.names k (omega (arith, lt, high))) in
    c.encode_summary.ensures ∙ ap (λ n. summary_sector (take (n - 1) names)) used.value ∙ ap summary_sector is
