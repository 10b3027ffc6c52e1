use Rattle.std.proofs.Common.{rules}
use Rattle.lfs_cleaner.proofs.of_log.of_memory.Going.{ok_then}
use Rattle.lfs_store.proofs.Cuttings.{sets_shorter, sets_longer}
use Rattle.lfs_store.proofs.Keepings.{drafts_uncounted, uncounted_drafts}
use Rattle.lfs_store.proofs.store.Store.draft_len.Goals as goal

pub returns-then-header-len-clause-done : goal.returns-then-header-len-clause-done
returns-then-header-len-clause-done g c =
    let state = g.D.SectorDevice.state in
    ok_then _ _ _ (sets_longer _ _ _ _ _ c.requires.empty (search rules)
    (drafts_uncounted {state = state} c.resize.ensures.keeps).reads) c.resize.ensures.done

pub returns-clause-done : goal.returns-clause-done
returns-clause-done g c =
    ok_then _ _ _ (sets_shorter _ _ _ _ _ c.requires.empty
    c.cut_blocks.new.self c.resize-2.ensures.keeps.log (search rules) c.cut_blocks.ensures.redrafts.reads c.in_ok-cut_blocks.ensures.done)
    c.resize-2.ensures.done

pub returns-then-header-len-clause-redrafts : goal.returns-then-header-len-clause-redrafts
returns-then-header-len-clause-redrafts g c =
    drafts_uncounted c.resize.ensures.keeps

pub returns-clause-redrafts : goal.returns-clause-redrafts
returns-clause-redrafts g c =
    uncounted_drafts c.cut_blocks.ensures.redrafts c.resize-2.ensures.keeps
