use Rattle.std.proofs.Common.{rules}
use Rattle.lfs_store.proofs.Cuttings.{cuts_even}
use Rattle.lfs_store.proofs.Keepings.{drafts_uncounted, uncounted_then}
use Rattle.lfs_store.proofs.store.Store.cut_blocks.Goals as goal

pub returns-then-len-eq0-clause-done : goal.returns-then-len-eq0-clause-done
returns-then-len-eq0-clause-done g c =
    cuts_even (search rules) c.lose_blocks.ensures.draft

pub returns-clause-failed : goal.returns-clause-failed
returns-clause-failed g c =
    rw (← c.lose_blocks.ensures.keeps.log) c.cut_last.ensures.failed

pub returns-then-len-eq0-clause-redrafts : goal.returns-then-len-eq0-clause-redrafts
returns-then-len-eq0-clause-redrafts g c =
    drafts_uncounted c.lose_blocks.ensures.keeps

pub returns-clause-redrafts : goal.returns-clause-redrafts
returns-clause-redrafts g c =
    uncounted_then (g.met.D.SectorDevice.lawful _) (drafts_uncounted c.lose_blocks.ensures.keeps) c.cut_last.ensures.redrafts
