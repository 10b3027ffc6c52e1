use Rattle.lfs_cleaner.proofs.of_log.of_memory.Going.{ok_then}
use Rattle.lfs_store.proofs.Shrunken.{shrinks, shrinks_only}
use Rattle.lfs_store.proofs.Keepings.{uncounted_drafts}
use Rattle.lfs_store.proofs.store.Store.draft_shrink.Goals as goal

pub returns-clause-done : goal.returns-clause-done
returns-clause-done g c =
    ok_then c.resize.result _ _
    (λ puts. shrinks _ c.args.self.now c.clear_tail.new.self c.resize.new.self _ c.args.header
    _ c.resize.ensures.keeps.log c.clear_tail.ensures.redrafts.reads c.in_ok-clear_tail.ensures.done puts c.requires.less c.requires.last)
    c.resize.ensures.done

pub returns-clause-only : goal.returns-clause-only
returns-clause-only g c =
    ok_then _ _ _
    (shrinks_only _ c.args.self.now c.clear_tail.new.self _ _ c.args.header
    _ c.resize.ensures.keeps.log c.clear_tail.ensures.redrafts.reads c.in_ok-clear_tail.ensures.done) c.resize.ensures.done

pub returns-clause-redrafts : goal.returns-clause-redrafts
returns-clause-redrafts g c =
    uncounted_drafts c.clear_tail.ensures.redrafts c.resize.ensures.keeps
