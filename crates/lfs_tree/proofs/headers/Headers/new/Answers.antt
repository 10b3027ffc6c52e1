use Rattle.std.proofs.Common.{rules, ◌∙◌, List, Option, None, get_or, ap}
use Rattle.std.proofs.lemmas.List.{get_or-replicate}
use Rattle.lfs_files.specs.declared.header.Header.{Header}
use Rattle.lfs_tree.proofs.headers.Headers.new.Goals as goal

pub returns-clause-empty : goal.returns-clause-empty
returns-clause-empty c = λ n low. ap (λ (hs : List (Option Header)). get_or hs n None)
    (c.in_ok-headers.ensures.items_if_clones_equal (λ y is. search rules)) ∙ get_or-replicate 4096 n None None low
