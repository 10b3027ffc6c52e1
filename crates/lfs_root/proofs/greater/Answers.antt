use Rattle.std.proofs.Common.{◌∙◌, sym}
use Rattle.std.proofs.lemmas.Bool.{ltb-true, ltb-false}
use Rattle.lfs_root.proofs.Slots.{newest_second, newest_first, newest_alone, newest_of_second}
use Rattle.lfs_root.proofs.greater.Goals as goal

pub returns-then-is_before-clause-newest : goal.returns-then-is_before-clause-newest
returns-then-is_before-clause-newest c content =
    newest_second _ _ _ _ c.in-Some-Some.is-0 c.in-Some-Some.is-1
    (λ one two. ltb-true _ _ (sym (c.is_before.ensures one two) ∙ c.if-is_before.true))

pub returns-else-is_before-clause-newest : goal.returns-else-is_before-clause-newest
returns-else-is_before-clause-newest c content =
    newest_first _ _ _ _ c.in-Some-Some.is-0 c.in-Some-Some.is-1
    (λ one two. ltb-false _ _ (sym (c.is_before.ensures one two) ∙ c.if-is_before.false))

pub returns-in-Some-None-clause-newest : goal.returns-in-Some-None-clause-newest
returns-in-Some-None-clause-newest c content = newest_alone _ _ _ c.in-Some-None.is-0 c.in-Some-None.is-1

pub returns-in-None-default-clause-newest : goal.returns-in-None-default-clause-newest
returns-in-None-default-clause-newest c content = newest_of_second content _ _ c.in-None-default.is-0
