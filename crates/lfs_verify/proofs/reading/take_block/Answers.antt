use Rattle.lfs_verify.proofs.Tests.{fails_by}
use Rattle.std.proofs.Common.{refl}
use Rattle.lfs_verify.proofs.Takes.{read_in, unread}
use Rattle.lfs_verify.proofs.reading.take_block.Goals as goal

pub returns-then-not-claim-clause-takes : goal.returns-then-not-claim-clause-takes
returns-then-not-claim-clause-takes g c = λ k reads o. absurd (fails_by refl c.if-not-claim.ensures.is_open o)

pub returns-then-not-branch-clause-takes : goal.returns-then-not-branch-clause-takes
returns-then-not-branch-clause-takes g c =
    λ k reads o. unread k _ _ (c.in_ok-fetch.ensures.block k reads) c.if-not-branch.true

pub returns-clause-takes : goal.returns-clause-takes
returns-clause-takes g c = λ k reads. (
  c.if-not-claim.ensures.is_open.0 refl,
  read_in k _ _ (c.in_ok-fetch.ensures.block k reads) c.if-not-branch.false,
  c.if-not-claim.ensures.marked,
)
