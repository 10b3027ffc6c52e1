use Rattle.std.proofs.Common.{◌≡◌, ◌/◌, []}
use Rattle.lfs_store.specs.Growing.{IsRun}
use Rattle.lfs_store.proofs.Writings.{WrittenUpTo}
use Rattle.lfs_store.proofs.store.Store.draft_write.Given as goal

abbrev pub invariant-loop-index : goal.invariant-loop-index
invariant-loop-index g l =
    WrittenUpTo g.D.SectorDevice.state l.initial.self l.self l.number.value l.at l.bytes l.index
    × (l.initial.self.draft.changes.blocks.items ≡ [] → IsRun l.number.value (l.at / 512) l.index l.self.draft.changes.blocks.items)
