use Rattle.std.proofs.Common.{◌≤◌, ◌-◌}
use Rattle.lfs_store.proofs.ReadParts.{ReadUpTo}
use Rattle.lfs_store.proofs.reading.read_part.Given as goal

abbrev pub invariant-loop-at : goal.invariant-loop-at
invariant-loop-at g l = (l.at ≤ l.to)
    × ReadUpTo g.D.SectorDevice.state l.initial.log l.log l.draft.changes l.number.value l.from l.at l.bytes.items

abbrev pub decreases-loop-at : goal.decreases-loop-at
decreases-loop-at g l = l.to - l.at
