use Rattle.lfs_path.proofs.Places.{root_place}
use Rattle.lfs_path.proofs.tree.parent.Goals as goal

pub returns-in_default-clause-answer : goal.returns-in_default-clause-answer
returns-in_default-clause-answer g c m m' keeps has tree =
    root_place m' c.in_ok-check_text.ensures.taken c.in_default.ensures.none c.root-chain.ensures
