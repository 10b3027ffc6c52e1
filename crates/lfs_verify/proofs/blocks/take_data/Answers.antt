use Rattle.std.proofs.Common.{arith}
use Rattle.lfs_model.specs.Content.{block}
use Rattle.lfs_verify.specs.Walk.{IsDataBytes}
use Rattle.lfs_verify.proofs.Takes.{takes_as, takes_none}
use Rattle.lfs_verify.proofs.DataSteps.{no_data}
use Rattle.lfs_verify.proofs.blocks.take_data.Goals as goal

pub returns-then-not-branch-clause-takes : goal.returns-then-not-branch-clause-takes
returns-then-not-branch-clause-takes g c = λ k reads.
    takes_none k _ _ _ _ _ (c.in_ok-take_block.ensures.takes k reads) (IsDataBytes _ _) c.if-not-branch.true
    (omega arith) (no_data _ _ (block k _))

pub returns-clause-takes : goal.returns-clause-takes
returns-clause-takes g c = λ k reads.
    takes_as k _ _ _ _ _ (c.in_ok-take_block.ensures.takes k reads) (IsDataBytes _ _) c.if-not-branch.false
    (omega arith) c.is_data.result c.is_data.ensures
