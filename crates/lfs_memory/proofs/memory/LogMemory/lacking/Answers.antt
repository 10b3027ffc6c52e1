use Rattle.std.proofs.Common.{◌≡◌, ◌∙◌, ◌%◌, ap, get_or, rules}
use Rattle.lfs_segments.specs.Table.{SegmentNumbers, no_segment, used_of}
use Rattle.lfs_memory.proofs.Padded.{lacks}
use Rattle.lfs_memory.proofs.memory.LogMemory.lacking.Goals as goal

in_use : (c : goal.Else-rest-eq0) → c.rest.inside.used ≡ used_of c.args.self.now.usage c.args.self.now.chunk.segment
in_use c =
    ap (λ (n : SegmentNumbers). n.used) (c.rest.view_is ∙ c.state.ensures.value
    ∙ ap (λ s. get_or c.args.self.now.usage.segments s no_segment) c.segment.ensures.value)

pub returns-else-rest-eq0-clause-ends : goal.returns-else-rest-eq0-clause-ends
returns-else-rest-eq0-clause-ends c =
    (lacks c.requires.memory.unit c.unit_sectors-unit.ensures.value (ap (λ n. n % c.unit_sectors-unit.result) (in_use c))
    c.if-rest-eq0.false).0

pub returns-else-rest-eq0-clause-room : goal.returns-else-rest-eq0-clause-room
returns-else-rest-eq0-clause-room c =
    (lacks c.requires.memory.unit c.unit_sectors-unit.ensures.value (ap (λ n. n % c.unit_sectors-unit.result) (in_use c))
    c.if-rest-eq0.false).1 (search rules)
