use Rattle.lfs_tree.proofs.headers.read_header.Goals as goal

pub returns-clause-answer : goal.returns-clause-answer
returns-clause-answer g c k m sees leads =
    cc ((rw c.if-not-branch.false at (c.in_ok-read_inode.ensures.answer k m sees leads)).header)

pub returns-then-not-branch-clause-answer : goal.returns-then-not-branch-clause-answer
returns-then-not-branch-clause-answer g c k m sees leads =
    rw c.if-not-branch.true at (c.in_ok-read_inode.ensures.answer k m sees leads)
