use Rattle.std.proofs.Common.{ℕ, ◌+◌, ◌∙◌, ap}
use Rattle.lfs_put.proofs.Costs.{more_pointers, no_pointers, one_pointer}
use Rattle.lfs_put.proofs.largest.pointer_blocks.Goals as goal

pub returns-then-blocks-le-DIRECT-clause-counted : goal.returns-then-blocks-le-DIRECT-clause-counted
returns-then-blocks-le-DIRECT-clause-counted c = no_pointers c.args.blocks c.if-blocks-le-DIRECT.true

pub returns-then-blocks-clause-counted : goal.returns-then-blocks-clause-counted
returns-then-blocks-clause-counted c = one_pointer c.args.blocks c.if-blocks-le-DIRECT.false c.if-blocks.true

pub returns-clause-counted : goal.returns-clause-counted
returns-clause-counted c = ap (λ (n : ℕ). 2 + n) c.div_ceil.ensures ∙ more_pointers c.args.blocks c.if-blocks.false c.requires
