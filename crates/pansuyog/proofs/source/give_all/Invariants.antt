use Rattle.std.specs.Prelude.{◌≡◌, ◌+◌}
use Rattle.lfs_queue.specs.Images.{cells_of}
use Rattle.pansuyog.specs.Sources.{AreGiven}
use Rattle.pansuyog.proofs.source.give_all.Given as goal

abbrev pub invariant-loop-bytes : goal.invariant-loop-bytes
invariant-loop-bytes l = (l.sector ≡ l.first + l.bytes-index)
    × AreGiven l.first l.bytes-index l.sectors (cells_of l.initial.image) (cells_of l.image)
