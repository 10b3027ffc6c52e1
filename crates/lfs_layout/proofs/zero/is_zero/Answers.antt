use Rattle.std.proofs.Common.{arith, rules}
use Rattle.lfs_model.proofs.Parts.{zeros_from_each, each_of_zeros}
use Rattle.lfs_layout.proofs.zero.is_zero.Goals as goal

pub returns-then-not-is_zero_from : goal.returns-then-not-is_zero_from
returns-then-not-is_zero_from c = (
  (λ no. cc),
  (λ e.
      let yes = c.is_zero_from.ensures.1 (λ k low high. each_of_zeros 512 e k (omega arith)) in
      cc),
)

pub returns : goal.returns
returns c = (
  (λ yes. zeros_from_each c.args.bytes.now 512 c.told-bytes (λ k lt. c.loop-block.invariant k (omega arith))),
  (λ e. search rules),
)
