use Rattle.lfs_tree.proofs.CheckSteps.{fails_links, fails_reached, fails_space, tree_whole}
use Rattle.lfs_tree.proofs.check.check_names.Goals as goal

pub returns-in-Ok-false-clause-reason : goal.returns-in-Ok-false-clause-reason
returns-in-Ok-false-clause-reason c d k m is =
    fails_reached d k m is
    (λ fit. let yes = c.in-Ok-false.ensures.1 fit in cc)

pub returns-then-not-stage_links-clause-reason : goal.returns-then-not-stage_links-clause-reason
returns-then-not-stage_links-clause-reason c d k m is =
    fails_links d k m is (c.in-Ok-true.ensures.0 c.in-Ok-true.field-0-test)
    (λ fit. let yes = c.stage_links.ensures.1 fit in cc)

pub returns-then-not-stage_space-clause-reason : goal.returns-then-not-stage_space-clause-reason
returns-then-not-stage_space-clause-reason c d k m is =
    fails_space d k m is (c.in-Ok-true.ensures.0 c.in-Ok-true.field-0-test) (c.stage_links.ensures.0 c.if-not-stage_links.false)
    (λ fit. let yes = c.stage_space.ensures.1 fit in cc)

pub returns-clause-done : goal.returns-clause-done
returns-clause-done c d k m is =
    tree_whole d k m is (c.in-Ok-true.ensures.0 c.in-Ok-true.field-0-test)
    (c.stage_links.ensures.0 c.if-not-stage_links.false) (c.stage_space.ensures.0 c.if-not-stage_space.false)
