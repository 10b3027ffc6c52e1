use Rattle.lfs_verify.proofs.Tests.{fails_by}
use Rattle.std.proofs.Common.{⊎_elim, refl, ap, arith}
use Rattle.lfs_model.specs.Content.{block}
use Rattle.lfs_verify.proofs.Steps.{inodes_of}
use Rattle.lfs_verify.proofs.Takes.{reads_first, reads_then, read_in, unread, goes_true, goes_false}
use Rattle.lfs_verify.proofs.RootKinds.{rootless, other_kind, root_kind}
use Rattle.lfs_verify.proofs.inode_stage.stage_inodes.Goals as goal

pub returns-then-not-branch-clause-goes : goal.returns-then-not-branch-clause-goes
returns-then-not-branch-clause-goes g c = λ d k reads same lists w.
    goes_false _ _ c.if-not-branch.true (c.in_ok-all_inodes.ensures.goes d k reads same lists) w

pub returns-then-root-eq0-clause-goes : goal.returns-then-root-eq0-clause-goes
returns-then-root-eq0-clause-goes g c = λ d k reads same lists w. rootless d k _ lists _ refl (ap (block d) c.if-root-eq0.true)

pub returns-then-not-branch-2-clause-goes : goal.returns-then-not-branch-2-clause-goes
returns-then-not-branch-2-clause-goes g c = λ d k reads same lists w.
    rootless d k _ lists _ refl
    (unread d _ _ (c.in_ok-fetch.ensures.block d (reads_then reads c.all_inodes.ensures.keeps.looks)) c.if-not-branch-2.true)

pub returns-then-not-is_directory-clause-goes : goal.returns-then-not-is_directory-clause-goes
returns-then-not-is_directory-clause-goes g c = λ d k reads same lists w.
    other_kind d k _ lists _ refl c.if-root-eq0.false _
    (read_in d _ _ (c.in_ok-fetch.ensures.block d (reads_then reads c.all_inodes.ensures.keeps.looks)) c.if-not-branch-2.false)
    (fails_by refl c.if-not-is_directory.ensures)

pub returns-clause-goes : goal.returns-clause-goes
returns-clause-goes g c = λ d k reads same lists w.
    goes_true _ c.if-not-branch.false
    (c.in_ok-all_inodes.ensures.goes d k (reads_first reads c.fetch.ensures.keeps.looks) same lists) w

pub returns-clause-holds : goal.returns-clause-holds
returns-clause-holds g c = λ is d k reads same lists bounded w.
    inodes_of _ (returns-clause-goes g c d k reads same lists w) bounded (root_kind d k _ lists _ refl
    (read_in d _ _ (c.in_ok-fetch.ensures.block d (reads_then reads c.all_inodes.ensures.keeps.looks)) c.if-not-branch-2.false)
    (c.if-not-is_directory.ensures.0 refl))

pub returns-clause-at : goal.returns-clause-at
returns-clause-at g c = λ is i lt.
    let at = c.in_ok-all_inodes.ensures.at c.if-not-branch.false in
    ⊎_elim (λ none. ⊎_elim (λ e. absurd (c.if-root-eq0.false e)) (λ some. omega (arith, none, some)) (at 1 (omega arith))) (λ some. some)
    (at i lt)

pub returns-clause-kept : goal.returns-clause-kept
returns-clause-kept g c = λ is d reads.
    c.in_ok-all_inodes.ensures.kept c.if-not-branch.false d (reads_first reads c.fetch.ensures.keeps.looks)
