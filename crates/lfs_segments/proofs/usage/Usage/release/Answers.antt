use Rattle.std.proofs.Common.{sym, subst}
use Rattle.lfs_segments.specs.Settled.{ListsUnsettled}
use Rattle.lfs_segments.proofs.Listed.{lists_released}
use Rattle.lfs_segments.proofs.usage.Usage.release.Goals as goal

pub invariant_of-self : goal.invariant_of-self
invariant_of-self c =
    let list = c.new-self-inside in (
      c.self.invariant.0,
      c.self.invariant.1,
      subst (λ t. ListsUnsettled list.result t.segments) (sym c.self.view_is)
          (lists_released list.result list.ensures.count list.ensures.size c.release_numbers.ensures),
      c.self.invariant.3,
    )
