use Rattle.std.proofs.Common.{◌≡◌, true, false, sym, ◌∙◌}
use Rattle.lfs_log.proofs.placing.seal_full.Goals as goal
use Rattle.lfs_log.proofs.EarlyBlocks.{begun_fresh, sealed_fresh}
use Rattle.lfs_log.proofs.SavedBlocks.{saves_none, saving_done}
use Rattle.lfs_memory.proofs.Moved.{holds_none}
use Rattle.lfs_log.proofs.Sealed.{full_ends, not_full}
use Rattle.lfs_memory.proofs.Spared.{spares_none}

pub returns-else-is_full-clause-saves : goal.returns-else-is_full-clause-saves
returns-else-is_full-clause-saves g c =
    saving_done (saves_none {v = c.args.memory.now} (g.met.D.SectorDevice.lawful c.args.device.now) (not_full c.requires.memory
    (c.is_full.ensures.no (λ yes. let bad : true ≡ false = sym yes ∙ c.if-is_full.false in absurd (cc)))))

pub seal-requires-clause-ends : goal.seal-requires-clause-ends
seal-requires-clause-ends g c =
    full_ends c.requires.memory (c.is_full.ensures.some c.if-is_full.true) (c.is_full.ensures.yes c.if-is_full.true)

pub returns-in_ok-seal-clause-fresh : goal.returns-in_ok-seal-clause-fresh
returns-in_ok-seal-clause-fresh g c is =
    sealed_fresh c.requires.memory is.0 (c.is_full.ensures.yes c.if-is_full.true) c.seal.ensures.only.usage c.in_ok-seal.ensures.ended

pub returns-else-is_full-clause-fresh : goal.returns-else-is_full-clause-fresh
returns-else-is_full-clause-fresh g c is = begun_fresh is

pub returns-else-is_full-clause-spares : goal.returns-else-is_full-clause-spares
returns-else-is_full-clause-spares g c = spares_none (g.D.SectorDevice.state c.args.device.now) c.args.memory.now

pub returns-else-is_full-clause-stays : goal.returns-else-is_full-clause-stays
returns-else-is_full-clause-stays g c = holds_none
