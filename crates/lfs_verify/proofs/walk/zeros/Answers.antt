use Rattle.std.proofs.Common.{rules, ◌∙◌, ℕ, List, length, get_or, ap}
use Rattle.std.proofs.lemmas.List.{length-replicate}
use Rattle.lfs_model.proofs.ObjectBytes.{get_or-zeros}
use Rattle.lfs_verify.proofs.walk.zeros.Goals as goal

pub returns-clause-len : goal.returns-clause-len
returns-clause-len c = ap length (c.in_ok-numbers.ensures.items_if_clones_equal (λ y is. search rules)) ∙ length-replicate _ 0

pub returns-clause-empty : goal.returns-clause-empty
returns-clause-empty c = λ n. ap (λ (xs : List ℕ). get_or xs n 0) (c.in_ok-numbers.ensures.items_if_clones_equal (λ y is. search rules))
    ∙ get_or-zeros _ n
